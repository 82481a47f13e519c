-- Lexemes that stand for words, and words that are tokens.
use Rattle.std.proofs.Common.{◌≡◌, ℕ, List, [], ◌∷◌, subst}
use Rattle.std.specs.Prelude.{All}
use Rattle.std.proofs.lemmas.List.Elements.{All-cons, All-nil}
use Rattle.hys_lex.specs.declared.token.TokenKind.{TokenKind}
use Rattle.hys_lex.specs.declared.token.TokenKind.TheVariants as token
use Rattle.hys_lex.specs.Spaced.{Spelling, IsSpelled}
use Rattle.hys_ast.specs.declared.lexeme.Lexeme.{Lexeme}
use Rattle.hys_ast.specs.Printed.{name, number}

-- the text of a lexeme that stands for a word
abbrev pub held_text : TokenKind → List ℕ → List ℕ
held_text token.Name bytes = bytes
held_text token.Literal bytes = bytes
held_text (token.Keyword k) bytes = []
held_text (token.Sign s) bytes = []

-- the lexemes have the kinds and the texts of the words
pub data Spells : List Spelling → List Lexeme → Type 0 where
  nothing : Spells [] []
  further : {w : Spelling} {l : Lexeme} {ws : List Spelling} {ls : List Lexeme} → l.kind ≡ w.kind → l.text ≡ held_text w.kind w.bytes → Spells ws ls → Spells (w ∷ ws) (l ∷ ls)

-- each word is a token
abbrev pub Spelled : List Spelling → Type 0
Spelled [] = Unit {0}
Spelled (w ∷ ws) = IsSpelled w × Spelled ws

pub all_spelled : (ws : List Spelling) → Spelled ws → All IsSpelled ws
all_spelled [] h = All-nil IsSpelled
all_spelled (w ∷ ws) h = All-cons IsSpelled w ws h.0 (all_spelled ws h.1)

-- the text of a lexeme is that of a token, where it has one
abbrev pub HasToken : TokenKind → List ℕ → Type 0
HasToken token.Name text = IsSpelled (name text)
HasToken token.Literal text = IsSpelled (number text)
HasToken (token.Keyword k) text = Unit {0}
HasToken (token.Sign s) text = Unit {0}

abbrev pub Lawful : List Lexeme → Type 0
Lawful [] = Unit {0}
Lawful (l ∷ ls) = HasToken l.kind l.text × Lawful ls

pub lawful_name : (l : Lexeme) → l.kind ≡ token.Name → HasToken l.kind l.text → IsSpelled (name l.text)
lawful_name l k h = let P : TokenKind → Type 0 = λ x. HasToken x l.text in subst P k h

pub lawful_number : (l : Lexeme) → l.kind ≡ token.Literal → HasToken l.kind l.text → IsSpelled (number l.text)
lawful_number l k h = let P : TokenKind → Type 0 = λ x. HasToken x l.text in subst P k h
