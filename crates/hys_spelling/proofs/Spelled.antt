-- What a literal is read as.
use Rattle.std.proofs.Common.{◌≡◌, ◌<◌, ◌≤◌, ◌+◌, ℕ, List, [], ◌∷◌, length, get_or, take, drop, Bool, true, false, cond, ◌&&◌, nat_eq, slice_index, refl, sym, ◌∙◌, ap, ap₂, subst, arith, inl, inr, Err, length-append, true≢false}
use Rattle.std.proofs.lemmas.List.{take_all}
use Rattle.std.proofs.lemmas.Bool.{cases_Bool}
use Rattle.std.proofs.lemmas.Bool.Decides.{nat_tests}
use Rattle.std.specs.Float.Numeral.{scan_numeral, has_digits, digits_len}
use Rattle.hys_number.proofs.Bools.{lt_false, eq_true, eq_false, or_false, both_true}
use Rattle.hys_frac.specs.Read.{judged, literal_value, literal_reading, ratio_reading, unsigned_reading, turned, reading}
use Rattle.hys_frac.specs.declared.read.FracFault.TheVariants.{Form}
use Rattle.hys_lex.specs.Bytes.{is_digit, begins_literal}
use Rattle.hys_lex.specs.Pieces.{IsLongest, IsLiteral}
use Rattle.hys_lex.proofs.Literals.{mantissa_some}
use Rattle.hys_spelling.specs.Spelling.{literal_number}
use Rattle.hys_spelling.proofs.Scanned.{scanned_len, longest_scan, none_at_front, no_slash}

whole_text : (text : List ℕ) → take (length text) text ≡ text
whole_text text = take_all (length text) text (omega arith)

-- the scan takes the whole of a literal
pub literal_len : (text : List ℕ) → IsLiteral text → scanned_len text ≡ length text
literal_len text l =
    let longest : IsLongest IsLiteral text (scanned_len text) = longest_scan text in
    let most : length text ≤ scanned_len text = longest.most (length text) (omega arith) (subst IsLiteral (sym (whole_text text)) l) in
    omega (arith, most, longest.within)

pub literal_some : (text : List ℕ) → IsLiteral text → 0 < length text
literal_some text l = omega (arith, ap length l.joined, length-append l.mantissa l.exponent, mantissa_some l.mantissa l.number)

whole_scan : (text : List ℕ) → scanned_len text ≡ length text → 0 < length text → has_digits (scan_numeral text) && nat_eq (scan_numeral text).len (length text) ≡ true
unfolding scanned_len
whole_scan text whole some = elim (cases_Bool (has_digits (scan_numeral text))) [
  | inl h ↦ both_true _ _ h (eq_true (scan_numeral text).len (length text) (sym (ap (λ b. cond b (scan_numeral text).len 0) h) ∙ whole))
  | inr h ↦ let zero_is : 0 ≡ length text = sym (ap (λ b. cond b (scan_numeral text).len 0) h) ∙ whole in absurd (omega arith)
]

pub literal_alone : (text : List ℕ) → IsLiteral text → literal_reading text ≡ literal_number text
unfolding literal_reading
literal_alone text l = ap (λ b. cond b (literal_number text) (Err Form)) (whole_scan text (literal_len text l) (literal_some text l))

pub literal_unsigned : (text : List ℕ) → IsLiteral text → unsigned_reading text ≡ literal_number text
unfolding unsigned_reading
literal_unsigned text l =
    let other : nat_eq (slice_index text (digits_len text)) 47 ≡ false = eq_false (slice_index text (digits_len text)) 47 (no_slash text (literal_len text l) (literal_some text l)) in
    ap (λ b. cond b (ratio_reading (take (digits_len text) text) (drop (digits_len text + 1) text)) (literal_reading text)) other ∙ literal_alone text l

-- a literal begins with a digit or the point
pub literal_begins : (text : List ℕ) → IsLiteral text → begins_literal (get_or text 0 0) ≡ true
literal_begins text l = elim (cases_Bool (begins_literal (get_or text 0 0))) [
  | inl h ↦ h
  | inr h ↦ absurd (omega (arith, literal_len text l, literal_some text l, none_at_front text (no_digit (get_or text 0 0) h) (no_point (get_or text 0 0) h)))
]
  where
    no_digit : (b : ℕ) → begins_literal b ≡ false → is_digit b ≡ false
    no_digit b h = grind (arith, nat_tests)

    no_point : (b : ℕ) → begins_literal b ≡ false → b ≡ 46 → ⊥
    no_point b h e = grind (arith, nat_tests)

-- what begins with a digit or the point has no sign
pub signless : (text : List ℕ) → begins_literal (get_or text 0 0) ≡ true → reading text ≡ unsigned_reading text
unfolding reading
signless [] h = absurd (cc)
signless (c ∷ cs) h =
    let no_minus : nat_eq c 45 ≡ false = other c 45 h refl in
    let no_plus : nat_eq c 43 ≡ false = other c 43 h refl in
    ap₂ (λ (a b : Bool). turned a (unsigned_reading (cond b cs (c ∷ cs)))) no_minus (or_false _ _ no_minus no_plus)
  where
    other : (c sign : ℕ) → begins_literal c ≡ true → begins_literal sign ≡ false → nat_eq c sign ≡ false
    other c sign h k = eq_false c sign (λ e. true≢false (sym h ∙ ap begins_literal e ∙ k))

pub literal_read : (text : List ℕ) → IsLiteral text → reading text ≡ literal_number text
literal_read text l = signless text (literal_begins text l) ∙ literal_unsigned text l

pub short_literal_read : (text : List ℕ) → IsLiteral text → length text ≤ 32 → reading text ≡ judged false (literal_value (scan_numeral text))
short_literal_read text l short = literal_read text l ∙ ap (λ b. judged b (literal_value (scan_numeral text))) (lt_false 32 (length text) short)
