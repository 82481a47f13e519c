use Rattle.std.proofs.Common.{◌≡◌, ◌+◌, ◌*◌, ◌^◌, ◌<◌, ◌≤◌, ◌⊎◌, ℕ, List, [], ◌∷◌, ◌++◌, Bool, true, false, cond, pos, length, arith, refl, ◌∙◌, sym, ap, subst, nat_eq, nat_lt, Ok, Err, Result, length-append, mul-le-mul_right}
use Rattle.std.specs.Str.Parse.{AllDigits, digits_value, digits_value_after}
use Rattle.std.specs.Float.Numeral.{Parts, digits_len, digits_end}
use Rattle.std.proofs.lemmas.List.{take_all}
use Rattle.std.proofs.lemmas.Nat.{pow-add}
use Rattle.std.proofs.lemmas.Int.Digits.{digits_value-lt}
use Rattle.hys_number.specs.Number.{Number, make}
use Rattle.hys_number.specs.Ops.{fits}
use Rattle.hys_number.proofs.Bools.{one_false}
use Rattle.hys_frac.specs.Read.{judged, ratio_reading, literal_value}
use Rattle.hys_frac.specs.declared.read.FracFault.{FracFault}
use Rattle.hys_frac.specs.declared.read.FracFault.TheVariants.{Form, Long, Range}
use Rattle.hys_frac.proofs.Numerals.{digits_at_front, digits_append, power_grows}

-- ---- answers
pub as_form : (b : Bool) (x : Result Number FracFault) → b ≡ false → Err Form ≡ cond b x (Err Form)
as_form b x i = rw i refl

pub as_long : (b l : Bool) (a : Number) → b ≡ true → l ≡ true → Err Long ≡ cond b (judged l a) (Err Form)
as_long b l a i j = rw (i, j) refl

pub as_ok : (b l : Bool) (a r : Number) → b ≡ true → l ≡ false → r ≡ a → fits a ≡ true → Ok r ≡ cond b (judged l a) (Err Form)
as_ok b l a r i j k m = rw (i, j, m) (ap Ok k)

pub as_range : (b l : Bool) (a : Number) → b ≡ true → l ≡ false → fits a ≡ false → Err Range ≡ cond b (judged l a) (Err Form)
as_range b l a i j m = rw (i, j, m) refl

-- ---- digits
pub all_digits : (xs : List ℕ) → length xs ≤ digits_len xs → AllDigits 10 xs
all_digits xs h = subst (AllDigits 10) (take_all (length xs) xs (omega arith)) (digits_at_front xs (length xs) h)

pub short_room : (n : ℕ) → n ≤ 32 → (0 + 1) * 10 ^ n ≤ 10 ^ 36
short_room n h = omega (arith, power_grows n 32 h)

pub short_digits : (ds : List ℕ) → AllDigits 10 ds → length ds ≤ 32 → digits_value 10 ds < 10 ^ 36
short_digits ds h l = omega (arith, digits_value-lt 10 ds h, power_grows (length ds) 32 l)

-- the digits of two parts
pub both_room : (a b : List ℕ) (n : ℕ) → AllDigits 10 a → n ≡ digits_value_after 10 0 a → length a + length b ≤ 32 → (n + 1) * 10 ^ length b ≤ 10 ^ 36
both_room a b n h e l = rw e (joined (digits_value 10 a) (10 ^ length a) (10 ^ length b) (10 ^ (length a + length b)) (digits_value-lt 10 a h) (pow-add 10 (length a) (length b)) (power_grows (length a + length b) 32 l))
  where
    joined : (v x y z : ℕ) → v < x → z ≡ x * y → z ≤ 10 ^ 32 → (v + 1) * y ≤ 10 ^ 36
    joined v x y z l e h = let m : v + 1 ≤ x = omega arith in omega (arith, mul-le-mul_right {m = v + 1} {n = x} y m)

pub both_digits : (a b : List ℕ) (n m : ℕ) → n ≡ digits_value_after 10 0 a → m ≡ digits_value_after 10 n b → m ≡ digits_value 10 (a ++ b)
both_digits a b n m e f = f ∙ ap (λ (x : ℕ). digits_value_after 10 x b) e ∙ sym (digits_append 0 a b)

all_of_both : (a b : List ℕ) → AllDigits 10 a → AllDigits 10 b → AllDigits 10 (a ++ b)
all_of_both [] b h l = l
all_of_both (c ∷ cs) b h l = (h.0, all_of_both cs b h.1 l)

pub both_small : (a b : List ℕ) (n m : ℕ) → AllDigits 10 a → AllDigits 10 b → n ≡ digits_value_after 10 0 a → m ≡ digits_value_after 10 n b → length a + length b ≤ 32 → m < 10 ^ 36
both_small a b n m h k e f l = rw (both_digits a b n m e f) (short_digits (a ++ b) (all_of_both a b h k) (omega (arith, length-append a b)))

pub front : (n : ℕ) (xs : List ℕ) → n ≡ digits_end xs 0 → n ≡ digits_len xs
front n xs e = omega arith

-- ---- a ratio
pub ratio_form : (above below : List ℕ) → (nat_lt 0 (length above) ≡ false) ⊎ ((nat_eq (digits_len below) (length below) ≡ false) ⊎ (nat_lt 0 (digits_value 10 below) ≡ false)) → Err Form ≡ ratio_reading above below
unfolding ratio_reading
ratio_form above below h = as_form _ _ (one_false _ _ _ h)

-- ---- a literal's number
pub literal_down : (p : Parts) (d e : ℕ) → p.exponent_negative ≡ true → d ≡ digits_value 10 (p.whole ++ p.fraction) → e ≡ digits_value 10 p.exponent → make (pos (d * 10 ^ 0)) (10 ^ (length p.fraction + e)) ≡ literal_value p
literal_down p d e h i j = rw (i, j, h) refl

pub literal_up : (p : Parts) (d e : ℕ) → p.exponent_negative ≡ false → d ≡ digits_value 10 (p.whole ++ p.fraction) → e ≡ digits_value 10 p.exponent → make (pos (d * 10 ^ e)) (10 ^ length p.fraction) ≡ literal_value p
literal_up p d e h i j = rw (i, j, h) (ap (λ (x : ℕ). make (pos (digits_value 10 (p.whole ++ p.fraction) * 10 ^ digits_value 10 p.exponent)) (10 ^ x)) (more (length p.fraction)))
  where
    more : (x : ℕ) → x ≡ x + 0
    more x = omega arith
