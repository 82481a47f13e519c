-- Tokens written one after the other, each followed by a space.
use Rattle.std.specs.Prelude.{ℕ, ◌+◌, List, [], ◌∷◌, ◌++◌, length, slice_range}
use Rattle.hys_lex.specs.Pieces.{IsTokenText, IsShort}
use Rattle.hys_lex.specs.declared.token.Token.{Token}
use Rattle.hys_lex.specs.declared.token.TokenKind.{TokenKind}

-- a token by its kind and its text
pub record Spelling : Type 0 where
  pub kind : TokenKind
  pub bytes : List ℕ

-- the text is a token of the kind and within the limit
abbrev pub IsSpelled : Spelling → Type 0
IsSpelled w = IsTokenText w.kind w.bytes × IsShort w.kind (length w.bytes)

-- the token's text in the source
abbrev pub spelling : List ℕ → Token → Spelling
spelling text t = record { kind = t.kind; bytes = slice_range text t.from t.to }

abbrev pub spaced : List Spelling → List ℕ
spaced [] = []
spaced (w ∷ ws) = w.bytes ++ (32 ∷ spaced ws)

-- the tokens of the spaced text that begins at a place
abbrev pub spaced_tokens : ℕ → List Spelling → List Token
spaced_tokens at [] = []
spaced_tokens at (w ∷ ws) = record { kind = w.kind; from = at; to = at + length w.bytes } ∷ spaced_tokens (at + length w.bytes + 1) ws
