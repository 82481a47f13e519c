-- The cut of a text into pieces, each the longest match at its place, and what stops it.
use Rattle.std.specs.Prelude.{◌≡◌, ◌⊎◌, ℕ, ◌+◌, ◌-◌, ◌<◌, ◌≤◌, List, [], ◌∷◌, length, take, drop, slice_range}
use Rattle.hys_lex.specs.Pieces.{PieceKind, Blank, Block, Line, Lexeme, IsPiece, IsTokenText, IsShort, IsWithinLimit, Opens, IsUnclosed}
use Rattle.hys_lex.specs.declared.token.Token.{Token}
use Rattle.hys_lex.specs.declared.token.TokenKind.TheVariants.{Name, Literal}
use Rattle.hys_lex.specs.declared.cut.LexFault.{LexFault}
use Rattle.hys_lex.specs.declared.cut.LexFault.TheVariants.{Byte, Comment, Long, Memory}

-- the first bytes of the text, so many, are a piece of the kind, no more bytes than these are a piece
-- of any kind, and a `/*` begins nothing but a comment
pub record IsMatch (text : List ℕ) (kind : PieceKind) (size : ℕ) : Type 0 where
  pub within : size ≤ length text
  pub piece : IsPiece kind (take size text)
  pub longest : (more : ℕ) (other : PieceKind) → size < more → more ≤ length text → IsPiece other (take more text) → ⊥
  pub comment : Opens text → kind ≡ Block

pub record Piece : Type 0 where
  pub kind : PieceKind
  pub size : ℕ

-- the text is these pieces, one after the other, each the longest match at its place and within the
-- limit on its length, and then the rest
abbrev pub IsFront : List ℕ → List Piece → List ℕ → Type 0
IsFront text [] rest = text ≡ rest
IsFront text (p ∷ ps) rest = IsMatch text p.kind p.size × IsWithinLimit p.kind p.size × IsFront (drop p.size text) ps rest

-- a token, unless it is a blank or a comment
abbrev pub with_piece : PieceKind → ℕ → ℕ → List Token → List Token
with_piece Blank from to more = more
with_piece Block from to more = more
with_piece Line from to more = more
with_piece (Lexeme kind) from to more = record { kind = kind; from = from; to = to } ∷ more

-- the tokens of pieces that begin at a place, with their spans
abbrev pub tokens_from : ℕ → List Piece → List Token
tokens_from at [] = []
tokens_from at (p ∷ ps) = with_piece p.kind at (at + p.size) (tokens_from (at + p.size) ps)

-- the tokens are the cut of the text
abbrev pub Cut : List ℕ → List Token → Type 0
Cut text tokens = (pieces : List Piece) × IsFront text pieces [] × (tokens ≡ tokens_from 0 pieces)

-- the token's span lies in the text, and its bytes there are a token of its kind within the limit
pub record IsTokenOf (text : List ℕ) (t : Token) : Type 0 where
  pub some : t.from < t.to
  pub within : t.to ≤ length text
  pub bytes : IsTokenText t.kind (slice_range text t.from t.to)
  pub short : IsShort t.kind (t.to - t.from)

-- the span of the first ends before that of the second
abbrev pub Precedes : Token → Token → Type 0
Precedes s t = s.to ≤ t.from

-- no blank, comment or token begins here
pub record NoPiece (rest : List ℕ) : Type 0 where
  pub more : 0 < length rest
  pub none : (kind : PieceKind) (size : ℕ) → size ≤ length rest → IsPiece kind (take size rest) → ⊥

-- a `/*` with no `*/` after it
pub record NoEnd (rest : List ℕ) : Type 0 where
  pub opens : Opens rest
  pub open_to_end : IsUnclosed rest

-- a name over 64 bytes or a literal over 32 characters
abbrev pub TooLong : List ℕ → Type 0
TooLong rest = ((size : ℕ) × (64 < size) × IsMatch rest (Lexeme Name) size) ⊎ ((size : ℕ) × (32 < size) × IsMatch rest (Lexeme Literal) size)

-- the text has lawful pieces up to the place, and there the cause stands
pub record StopsAt (text : List ℕ) (at : ℕ) (Cause : List ℕ → Type 0) : Type 0 where
  pub pieces : List Piece
  pub rest : List ℕ
  pub front : IsFront text pieces rest
  pub place : length text ≡ at + length rest
  pub cause : Cause rest

-- the fault is the first of the text from the left
abbrev pub IsFirstFault : List ℕ → LexFault → Type 0
IsFirstFault text (Byte at) = StopsAt text at NoPiece
IsFirstFault text (Comment at) = StopsAt text at NoEnd
IsFirstFault text (Long at) = StopsAt text at TooLong
IsFirstFault text Memory = ⊥
