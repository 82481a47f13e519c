-- What a number text says: an optional sign, then a literal, or digits `/` digits of which the second aren't all 0.
use Rattle.std.specs.Prelude.{List, [], ◌∷◌, ℕ, ◌+◌, ◌*◌, ◌^◌, pos, Bool, true, false, ◌&&◌, ◌||◌, length, take, drop, nat_eq, nat_lt, cond, slice_index, Result, Ok, Err}
use Rattle.std.specs.Str.Parse.{digits_value}
use Rattle.std.specs.Float.Numeral.{Parts, scan_numeral, has_digits, numeral_digits, tens_up, tens_down, digits_len}
use Rattle.std.specs.Coded.{Coded, code_by, coded×, coded_ℕ, coded_list, coded_bool}
use Rattle.std.proofs.Common.{refl}
use Rattle.hys_number.specs.Number.{Number, make}
use Rattle.hys_number.specs.Ops.{neg, fits}
use Rattle.hys_frac.specs.declared.read.FracFault.{FracFault}
use Rattle.hys_frac.specs.declared.read.FracFault.TheVariants.{Form, Long, Range}

-- a number text that is too long, or whose number doesn't fit, is refused
abbrev pub judged : Bool → Number → Result Number FracFault
judged long a = cond long (Err Long) (cond (fits a) (Ok a) (Err Range))

-- the digits before the exponent times the power of ten
abbrev pub literal_value : Parts → Number
literal_value p = make (pos (numeral_digits p * 10 ^ tens_up p)) (10 ^ tens_down p)

-- a literal takes the whole text, has a digit, and at most 32 characters
unfoldable pub literal_reading : List ℕ → Result Number FracFault
literal_reading text = cond (has_digits (scan_numeral text) && nat_eq (scan_numeral text).len (length text)) (judged (nat_lt 32 (length text)) (literal_value (scan_numeral text))) (Err Form)

-- two texts of digits, the second not all 0, each of at most 32 characters
unfoldable pub ratio_reading : List ℕ → List ℕ → Result Number FracFault
ratio_reading above below = cond (nat_lt 0 (length above) && (nat_eq (digits_len below) (length below) && nat_lt 0 (digits_value 10 below))) (judged (nat_lt 32 (length above) || nat_lt 32 (length below)) (make (pos (digits_value 10 above)) (digits_value 10 below))) (Err Form)

-- where a `/` follows the digits at the front they are the first of two parts
unfoldable pub unsigned_reading : List ℕ → Result Number FracFault
unsigned_reading text = cond (nat_eq (slice_index text (digits_len text)) 47) (ratio_reading (take (digits_len text) text) (drop (digits_len text + 1) text)) (literal_reading text)

abbrev pub turned : Bool → Result Number FracFault → Result Number FracFault
turned true (Ok a) = Ok (neg a)
turned true (Err e) = Err e
turned false r = r

-- the text after a `+` or `-`
abbrev pub without_sign : List ℕ → List ℕ
without_sign [] = []
without_sign (c ∷ cs) = cond (nat_eq c 45 || nat_eq c 43) cs (c ∷ cs)

unfoldable pub reading : List ℕ → Result Number FracFault
reading text = turned (nat_eq (slice_index text 0) 45) (unsigned_reading (without_sign text))

-- ---- how the code keeps a literal's parts
abbrev pub parts_code : Coded Parts
parts_code =
    code_by ((List ℕ × Bool) × ((List ℕ × Bool) × (List ℕ × ℕ)))
    (coded× (coded× (coded_list coded_ℕ) coded_bool) (coded× (coded× (coded_list coded_ℕ) coded_bool) (coded× (coded_list coded_ℕ) coded_ℕ)))
    (λ p. ((p.whole, p.point), ((p.fraction, p.exponent_negative), (p.exponent, p.len))))
    (λ t. record { whole = t.0.0; point = t.0.1; fraction = t.1.0.0; exponent_negative = t.1.0.1; exponent = t.1.1.0; len = t.1.1.1 }) (λ _. refl)
