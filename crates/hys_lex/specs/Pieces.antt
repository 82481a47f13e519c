-- What the pieces of a text look like: blanks, comments and tokens.
use Rattle.std.specs.Prelude.{◌≡◌, ◌≢◌, ◌⊎◌, ℕ, ◌+◌, ◌-◌, ◌<◌, ◌≤◌, List, [], ◌∷◌, ◌++◌, length, take, true, slice_index}
use Rattle.std.specs.List.{AllPass}
use Rattle.hys_lex.specs.Bytes.{is_blank, is_letter, is_digit, is_name_byte, is_exponent_mark}
use Rattle.hys_lex.specs.Words.{keywords, signs, IsAt}
use Rattle.hys_lex.specs.declared.token.TokenKind.{TokenKind}
use Rattle.hys_lex.specs.declared.token.TokenKind.TheVariants.{Name, Literal, Keyword, Sign}

-- the first bytes of the text, so many, have the shape, and no more bytes than these do; 0 where none have
pub record IsLongest (Shape : List ℕ → Type 0) (text : List ℕ) (size : ℕ) : Type 0 where
  pub within : size ≤ length text
  pub found : 0 < size → Shape (take size text)
  pub most : (more : ℕ) → more ≤ length text → Shape (take more text) → more ≤ size

-- a letter or the underscore, and then these and digits
abbrev pub IsWord : List ℕ → Type 0
IsWord bytes = (is_letter (slice_index bytes 0) ≡ true) × AllPass is_name_byte bytes

abbrev pub IsDigits : List ℕ → Type 0
IsDigits bytes = (0 < length bytes) × AllPass is_digit bytes

-- digits, a point, digits, with at least one digit on one side
pub record IsPointed (bytes : List ℕ) : Type 0 where
  pub whole : List ℕ
  pub part : List ℕ
  pub whole_digits : AllPass is_digit whole
  pub part_digits : AllPass is_digit part
  pub some_digit : 0 < length whole + length part
  pub joined : bytes ≡ whole ++ (46 ∷ part)

abbrev pub IsMantissa : List ℕ → Type 0
IsMantissa bytes = IsDigits bytes ⊎ IsPointed bytes

-- `e` or `E`, at most one sign, and at least one digit
pub record IsExponent (bytes : List ℕ) : Type 0 where
  pub mark : ℕ
  pub sign : List ℕ
  pub power : List ℕ
  pub marked : is_exponent_mark mark ≡ true
  pub signed : (sign ≡ []) ⊎ (sign ≡ 43 ∷ []) ⊎ (sign ≡ 45 ∷ [])
  pub digits : IsDigits power
  pub joined : bytes ≡ mark ∷ (sign ++ power)

-- digits, with a point or without, and then at most one exponent
pub record IsLiteral (bytes : List ℕ) : Type 0 where
  pub mantissa : List ℕ
  pub exponent : List ℕ
  pub number : IsMantissa mantissa
  pub power : (exponent ≡ []) ⊎ IsExponent exponent
  pub joined : bytes ≡ mantissa ++ exponent

-- the bytes begin with `/*`
abbrev pub Opens : List ℕ → Type 0
Opens bytes = (slice_index bytes 0 ≡ 47) × (slice_index bytes 1 ≡ 42)

-- `*/` stands at place i
abbrev pub ClosesAt : List ℕ → ℕ → Type 0
ClosesAt bytes i = (slice_index bytes i ≡ 42) × (slice_index bytes (i + 1) ≡ 47)

-- no `*/` stands behind the first two bytes
abbrev pub IsUnclosed : List ℕ → Type 0
IsUnclosed bytes = (i : ℕ) → 2 ≤ i → ClosesAt bytes i → ⊥

-- from `/*` to the first `*/` after it
pub record IsBlock (bytes : List ℕ) : Type 0 where
  pub long : 4 ≤ length bytes
  pub opens : Opens bytes
  pub closes : ClosesAt bytes (length bytes - 2)
  pub first : (i : ℕ) → 2 ≤ i → i < length bytes - 2 → ClosesAt bytes i → ⊥

-- `//` and then no LF: the LF that ends it is a blank of its own
pub record IsLine (bytes : List ℕ) : Type 0 where
  pub first : slice_index bytes 0 ≡ 47
  pub second : slice_index bytes 1 ≡ 47
  pub one_line : (i : ℕ) → i < length bytes → slice_index bytes i ≢ 10

-- the bytes are a whole token of the kind, however long
abbrev pub IsTokenText : TokenKind → List ℕ → Type 0
IsTokenText Name bytes = IsWord bytes × ((k : ℕ) → IsAt keywords k bytes → ⊥)
IsTokenText Literal bytes = IsLiteral bytes
IsTokenText (Keyword k) bytes = IsWord bytes × IsAt keywords k bytes
IsTokenText (Sign k) bytes = IsAt signs k bytes

-- one blank byte, a comment `/* .. */`, a comment `// ..`, a token
pub data PieceKind : Type 0 where
  Blank : PieceKind
  Block : PieceKind
  Line : PieceKind
  Lexeme : TokenKind → PieceKind

-- the bytes are a whole piece of the kind
abbrev pub IsPiece : PieceKind → List ℕ → Type 0
IsPiece Blank bytes = (length bytes ≡ 1) × (is_blank (slice_index bytes 0) ≡ true)
IsPiece Block bytes = IsBlock bytes
IsPiece Line bytes = IsLine bytes
IsPiece (Lexeme kind) bytes = IsTokenText kind bytes

-- a name of at most 64 bytes, a literal of at most 32 characters, or any other token
abbrev pub IsShort : TokenKind → ℕ → Type 0
IsShort Name size = size ≤ 64
IsShort Literal size = size ≤ 32
IsShort (Keyword k) size = Unit {0}
IsShort (Sign k) size = Unit {0}

abbrev pub IsWithinLimit : PieceKind → ℕ → Type 0
IsWithinLimit Blank size = Unit {0}
IsWithinLimit Block size = Unit {0}
IsWithinLimit Line size = Unit {0}
IsWithinLimit (Lexeme kind) size = IsShort kind size
