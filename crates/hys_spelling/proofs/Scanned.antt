-- The scan of a numeral goes as far as the longest literal at the front of a text, where it has a digit.
use Rattle.std.proofs.Common.{◌≡◌, ◌<◌, ◌+◌, ◌-◌, ℕ, List, [], ◌∷◌, length, get_or, take, drop, Bool, true, false, cond, nat_eq, nat_lt, refl, sym, ◌∙◌, ap, subst, arith, inl, inr, length-drop, get_or-drop, drop-drop, zero-add, add-zero}
use Rattle.std.proofs.lemmas.List.{get_or_past, length-take-le}
use Rattle.std.proofs.lemmas.Bool.{cases_lt, cases_Bool, cases_eq}
use Rattle.std.proofs.lemmas.Bool.Decides.{nat_tests}
use Rattle.std.proofs.Math.Bool.{or_comm}
use Rattle.std.proofs.lemmas.List.Sums.{prefix_len-le-length}
use Rattle.std.specs.List.{prefix_len}
use Rattle.std.specs.Float.Numeral.{scan_numeral, has_digits, has_exponent, exponent_start, digits_end}
use Rattle.hys_lex.specs.Bytes.{is_digit, is_exponent_mark, is_plus_or_minus}
use Rattle.hys_lex.specs.Pieces.{IsLongest, IsMantissa, IsExponent, IsLiteral}
use Rattle.hys_lex.proofs.Literals.{PowerStart, mantissa_whole, mantissa_none, mantissa_pointed, exponent_none, exponent_bare, exponent_found, literal_none, literal_joined}
use Rattle.hys_number.proofs.Bools.{lt_true, lt_false, eq_true, eq_false}

-- where a numeral ends whose mantissa ends at the place
unfoldable pub numeral_end : List ℕ → ℕ → ℕ
numeral_end text at = cond (has_exponent text at) (digits_end text (exponent_start text at)) at

-- ---- the exponent
-- the longest exponent at the place, and that the scan ends after it
record ExponentEnd (text : List ℕ) (at : ℕ) : Type 0 where
  size : ℕ
  ends : numeral_end text at ≡ at + size
  longest : IsLongest IsExponent (drop at text) size

some_run : (p : ℕ → Bool) (xs : List ℕ) → 0 < length xs → p (get_or xs 0 0) ≡ true → 0 < prefix_len p xs
some_run p [] h e = absurd (omega arith)
some_run p (x ∷ xs) h e = rw e (omega arith)

pub no_run : (p : ℕ → Bool) (xs : List ℕ) → p (get_or xs 0 0) ≡ false → prefix_len p xs ≡ 0
no_run p [] e = refl
no_run p (x ∷ xs) e = rw e refl

-- a byte other than 0 stands within the text
pub within : (text : List ℕ) (at : ℕ) → 0 < get_or text at 0 → at < length text
within text at some = elim (cases_lt at (length text)) [
  | inl less ↦ less
  | inr past ↦ let nothing : get_or text at 0 ≡ 0 = get_or_past text at 0 past in absurd (omega arith)
]

digit_some : (b : ℕ) → is_digit b ≡ true → 0 < b
digit_some b h = grind (arith, nat_tests)

marked_end : (text : List ℕ) (at front : ℕ) → is_exponent_mark (get_or text at 0) ≡ true → exponent_start text at ≡ at + front → PowerStart (drop at text) front → ExponentEnd text at
unfolding numeral_end
marked_end text at front mark start power =
    let rest = drop at text in
    let first : get_or rest 0 0 ≡ get_or text at 0 = get_or-drop at text 0 0 ∙ ap (λ i. get_or text i 0) (add-zero at) in
    let rest_mark : is_exponent_mark (get_or rest 0 0) ≡ true = ap is_exponent_mark first ∙ mark in
    let same : drop front rest ≡ drop (at + front) text = drop-drop front at text in
    let head : get_or (drop front rest) 0 0 ≡ get_or text (at + front) 0 = ap (λ xs. get_or xs 0 0) same ∙ get_or-drop (at + front) text 0 0 ∙ ap (λ i. get_or text i 0) (add-zero (at + front)) in
    elim (cases_Bool (is_digit (get_or text (at + front) 0))) [
      | inl yes_digit ↦
          let here : at + front < length text = within text (at + front) (digit_some (get_or text (at + front) 0) yes_digit) in
          let digits = prefix_len is_digit (drop front rest) in
          let some : 0 < digits = some_run is_digit (drop front rest) (omega (arith, length-drop front rest, length-drop at text)) (ap is_digit head ∙ yes_digit) in
          record {
            size = front + digits;
            ends = rw (start, mark, yes_digit) (ap (λ xs. at + front + prefix_len is_digit xs) (sym same) ∙ regrouped at front digits);
            longest = exponent_found rest front digits rest_mark power (omega (arith, length-drop at text)) refl some;
          }
      | inr no_digit ↦ record {
        size = 0;
        ends = rw (start, mark, no_digit) (sym (add-zero at));
        longest = exponent_bare rest front power (no_run is_digit (drop front rest) (ap is_digit head ∙ no_digit));
      }
    ]
  where
    regrouped : (a b c : ℕ) → a + b + c ≡ a + (b + c)
    regrouped a b c = omega arith

exponent_end : (text : List ℕ) (at : ℕ) → ExponentEnd text at
unfolding numeral_end
exponent_end text at =
    let rest = drop at text in
    let first : get_or rest 0 0 ≡ get_or text at 0 = get_or-drop at text 0 0 ∙ ap (λ i. get_or text i 0) (add-zero at) in
    let second : get_or rest 1 0 ≡ get_or text (at + 1) 0 = get_or-drop at text 1 0 in
    elim (cases_Bool (is_exponent_mark (get_or text at 0))) [
      | inl mark ↦ elim (cases_Bool (is_plus_or_minus (get_or text (at + 1) 0))) [
        | inl sign ↦
            let here : is_plus_or_minus (get_or rest 1 0) ≡ true = ap is_plus_or_minus second ∙ sign in
            marked_end text at 2 mark (rw (or_comm (nat_eq (get_or text (at + 1) 0) 45) (nat_eq (get_or text (at + 1) 0) 43), sign) refl) (record { signed = λ e. refl; plain = λ e. absurd (cc) })
        | inr plain ↦
            let here : is_plus_or_minus (get_or rest 1 0) ≡ false = ap is_plus_or_minus second ∙ plain in
            marked_end text at 1 mark (rw (or_comm (nat_eq (get_or text (at + 1) 0) 45) (nat_eq (get_or text (at + 1) 0) 43), plain) refl) (record { signed = λ e. absurd (cc); plain = λ e. refl })
      ]
      | inr other ↦ record { size = 0; ends = rw other (sym (add-zero at)); longest = exponent_none rest (ap is_exponent_mark first ∙ other) }
    ]

-- ---- the scan in the two cases
-- how far the scan goes, and how many digits stand before the exponent
record Scan (text : List ℕ) (digits at : ℕ) : Type 0 where
  digits_are : has_digits (scan_numeral text) ≡ nat_lt 0 digits
  len_is : (scan_numeral text).len ≡ numeral_end text at

plain_scan : (text : List ℕ) → (get_or text (prefix_len is_digit text) 0 ≡ 46 → ⊥) → Scan text (prefix_len is_digit text) (prefix_len is_digit text)
unfolding scan_numeral numeral_end
plain_scan text other =
    let w = prefix_len is_digit text in
    let none : nat_eq (get_or text w 0) 46 ≡ false = eq_false (get_or text w 0) 46 other in
    let start : 0 + w ≡ w = zero-add w in
    let long : length (take (w - 0) text) ≡ w = length-take-le (w - 0) text (omega (arith, prefix_len-le-length is_digit text)) ∙ omega arith in
    record { digits_are = rw (start, none, long, add-zero w) refl; len_is = rw (start, none) refl }

pointed_scan : (text : List ℕ) → get_or text (prefix_len is_digit text) 0 ≡ 46 →
    Scan text (prefix_len is_digit text + prefix_len is_digit (drop (prefix_len is_digit text + 1) text)) (prefix_len is_digit text + 1 + prefix_len is_digit (drop (prefix_len is_digit text + 1) text))
unfolding scan_numeral numeral_end
pointed_scan text point =
    let w = prefix_len is_digit text in
    let rest = drop (w + 1) text in
    let n = prefix_len is_digit rest in
    let here : nat_eq (get_or text w 0) 46 ≡ true = eq_true (get_or text w 0) 46 point in
    let start : 0 + w ≡ w = zero-add w in
    let long : length (take (w - 0) text) ≡ w = length-take-le (w - 0) text (omega (arith, prefix_len-le-length is_digit text)) ∙ omega arith in
    let part : length (take (w + 1 + n - (w + 1)) rest) ≡ n = length-take-le (w + 1 + n - (w + 1)) rest (omega (arith, prefix_len-le-length is_digit rest)) ∙ omega arith in
    record { digits_are = rw (start, here, long, part) refl; len_is = rw (start, here) refl }

-- ---- the longest literal
unfoldable pub scanned_len : List ℕ → ℕ
scanned_len text = cond (has_digits (scan_numeral text)) (scan_numeral text).len 0

joined_scan : (text : List ℕ) (digits at : ℕ) → Scan text digits at → 0 < digits → 0 < at → IsLongest IsMantissa text at → IsLongest IsLiteral text (scanned_len text)
unfolding scanned_len
joined_scan text digits at s some more mantissa =
    let x : ExponentEnd text at = exponent_end text at in
    let yes_digits : has_digits (scan_numeral text) ≡ true = s.digits_are ∙ lt_true 0 digits some in
    let is : at + x.size ≡ scanned_len text = sym (ap (λ b. cond b (scan_numeral text).len 0) yes_digits ∙ s.len_is ∙ x.ends) in
    subst (IsLongest IsLiteral text) is (literal_joined text at x.size mantissa more x.longest)

empty_scan : (text : List ℕ) (digits at : ℕ) → Scan text digits at → digits ≡ 0 → IsLongest IsMantissa text 0 → IsLongest IsLiteral text (scanned_len text)
unfolding scanned_len
empty_scan text digits at s none mantissa =
    let no_digits : has_digits (scan_numeral text) ≡ false = s.digits_are ∙ lt_false 0 digits (omega arith) in
    let is : 0 ≡ scanned_len text = sym (ap (λ b. cond b (scan_numeral text).len 0) no_digits) in
    subst (IsLongest IsLiteral text) is (literal_none text mantissa)

pub longest_scan : (text : List ℕ) → IsLongest IsLiteral text (scanned_len text)
longest_scan text =
    let w = prefix_len is_digit text in
    let n = prefix_len is_digit (drop (w + 1) text) in
    elim (cases_eq (get_or text w 0) 46) [
      | inl point ↦ elim (cases_lt 0 (w + n)) [
        | inl some ↦ joined_scan text (w + n) (w + 1 + n) (pointed_scan text point) some (omega arith) (mantissa_pointed text w n refl (within text w (omega arith)) point refl some)
        | inr none ↦ empty_scan text (w + n) (w + 1 + n) (pointed_scan text point) (omega arith) (mantissa_none text (omega arith) (omega arith))
      ]
      | inr other ↦ elim (cases_lt 0 w) [
        | inl some ↦ joined_scan text w w (plain_scan text other) some some (mantissa_whole text other)
        | inr none ↦ let zero_is : w ≡ 0 = omega arith in empty_scan text w w (plain_scan text other) zero_is (subst (IsLongest IsMantissa text) zero_is (mantissa_whole text other))
      ]
    ]

-- a text whose first byte is neither a digit nor the point has no literal at its front
pub none_at_front : (text : List ℕ) → is_digit (get_or text 0 0) ≡ false → (get_or text 0 0 ≡ 46 → ⊥) → scanned_len text ≡ 0
unfolding scanned_len
none_at_front text no_digit no_point =
    let none : prefix_len is_digit text ≡ 0 = no_run is_digit text no_digit in
    let s : Scan text (prefix_len is_digit text) (prefix_len is_digit text) = plain_scan text (λ e. no_point (ap (λ i. get_or text i 0) (sym none) ∙ e)) in
    ap (λ b. cond b (scan_numeral text).len 0) (s.digits_are ∙ lt_false 0 (prefix_len is_digit text) (omega arith))

-- where a scan takes the whole text no `/` stands behind the digits
pub no_slash : (text : List ℕ) → scanned_len text ≡ length text → 0 < length text → get_or text (prefix_len is_digit text) 0 ≡ 47 → ⊥
unfolding scanned_len numeral_end
no_slash text whole some slash =
    let w = prefix_len is_digit text in
    let s : Scan text w w = plain_scan text (λ e. omega (arith, e, slash)) in
    let unmarked : is_exponent_mark (get_or text w 0) ≡ false = ap is_exponent_mark slash in
    let ends : (scan_numeral text).len ≡ w = s.len_is ∙ rw unmarked refl in
    elim (cases_Bool (has_digits (scan_numeral text))) [
      | inl h ↦
          let long : w ≡ length text = sym ends ∙ sym (ap (λ b. cond b (scan_numeral text).len 0) h) ∙ whole in
          let nothing : get_or text w 0 ≡ 0 = get_or_past text w 0 (omega arith) in
          omega (arith, nothing, slash)
      | inr h ↦ let zero_is : 0 ≡ length text = sym (ap (λ b. cond b (scan_numeral text).len 0) h) ∙ whole in omega arith
    ]
