-- The texts that write a number, by the lexer's literals.
use Rattle.std.specs.Prelude.{◌≡◌, ◌⊎◌, ◌||◌, ◌==◌, List, [], ◌∷◌, ◌++◌, ℕ, Bool, length, nat_eq, nat_lt, slice_index, Result, pos, codes}
use Rattle.std.proofs.Common.{inl, inr}
use Rattle.std.specs.List.{AllPass}
use Rattle.std.specs.Str.Parse.{digits_value}
use Rattle.std.specs.Float.Numeral.{scan_numeral}
use Rattle.hys_number.specs.Number.{Number, make}
use Rattle.hys_frac.specs.Read.{judged, literal_value, turned}
use Rattle.hys_frac.specs.declared.read.FracFault.{FracFault}
use Rattle.hys_lex.specs.Pieces.{IsDigits, IsLiteral}

-- the number that a literal writes
abbrev pub written_number : List ℕ → Number
written_number text = literal_value (scan_numeral text)

-- that number, where the text has at most 32 characters and the number fits
abbrev pub literal_number : List ℕ → Result Number FracFault
literal_number text = judged (nat_lt 32 (length text)) (written_number text)

abbrev pub is_zero_digit : ℕ → Bool
is_zero_digit b = (b == 48)

-- digits, `/`, digits that aren't all 0
pub record IsQuotient (text : List ℕ) : Type 0 where
  pub above : List ℕ
  pub below : List ℕ
  pub above_digits : IsDigits above
  pub below_digits : IsDigits below
  pub not_zero : AllPass is_zero_digit below → ⊥
  pub joined : text ≡ above ++ (47 ∷ below)

-- the number of a quotient, where each of its two parts has at most 32 characters and the number fits
abbrev pub quotient_number : List ℕ → List ℕ → Result Number FracFault
quotient_number above below = judged (nat_lt 32 (length above) || nat_lt 32 (length below)) (make (pos (digits_value 10 above)) (digits_value 10 below))

abbrev pub unsigned_number : (rest : List ℕ) → IsLiteral rest ⊎ IsQuotient rest → Result Number FracFault
unsigned_number rest (inl literal) = literal_number rest
unsigned_number rest (inr quotient) = quotient_number quotient.above quotient.below

-- at most one sign, and then a literal or a quotient
pub record IsNumberText (text : List ℕ) : Type 0 where
  pub sign : List ℕ
  pub rest : List ℕ
  pub signed : (sign ≡ []) ⊎ (sign ≡ 43 ∷ []) ⊎ (sign ≡ 45 ∷ [])
  pub number : IsLiteral rest ⊎ IsQuotient rest
  pub joined : text ≡ sign ++ rest

-- the number after the sign, turned where the sign is `-`
abbrev pub text_number : (text : List ℕ) → IsNumberText text → Result Number FracFault
text_number text n = turned (nat_eq (slice_index n.sign 0) 45) (unsigned_number n.rest n.number)

-- texts that have the form of a number
abbrev pub some_number_texts : List (List ℕ)
some_number_texts = codes "5" ∷ codes "5." ∷ codes ".5" ∷ codes "5.25" ∷ codes "12e1" ∷ codes "+3e-2" ∷ codes "5.E+07" ∷ codes "-0" ∷ codes "-7/3" ∷ codes "+0/10" ∷ []

-- texts that don't
abbrev pub other_texts : List (List ℕ)
other_texts = codes "" ∷ codes "." ∷ codes "-" ∷ codes "e5" ∷ codes "5e" ∷ codes "5e+" ∷ codes "--1" ∷ codes "1/0" ∷ codes "1/00" ∷ codes "1/" ∷ codes "/2" ∷ codes "1/2/3" ∷ codes "1/-2" ∷ codes "1.0/2" ∷ codes " 1" ∷ codes "1 " ∷ []
