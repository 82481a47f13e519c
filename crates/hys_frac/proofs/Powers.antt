use Rattle.std.proofs.Common.{◌≡◌, ℕ, zero, suc, ◌+◌, ◌-◌, ◌*◌, ◌/◌, ◌^◌, ◌<◌, ◌≤◌, ℤ, pos, unsigned_abs, to_z, false, sym, ◌∙◌, ap, ap₂, subst, arith, mul-pos, mul-le-mul_left, ◌⊎◌, inl, inr}
use Rattle.std.proofs.Math.Nat.{pow-succ', div-le_self}
use Rattle.std.proofs.lemmas.Nat.{pow-add}
use mir.Syntax.{w128}
use borrow.Author.Differences.{ints}
use Rattle.hys_number.specs.Gcd.{gcd, gcd_is, gcd_left, exact}
use Rattle.hys_number.specs.Number.{Number, make, make_reduced, make_is_divided}
use Rattle.hys_number.specs.Ops.{◌*ₙ◌, whole, int, fits}
use Rattle.hys_number.proofs.Laws.{same-ratio, mul-ratio, whole-ratio}
use Rattle.hys_number.proofs.Inverse.{make-ratio, int_parts}
use Rattle.hys_frac.proofs.Fracs.{fits_no_num, fits_no_den}
use Rattle.hys_frac.proofs.Numerals.{power_pos}

pub same-fraction : (a d a' d' : ℕ) → 0 < d → 0 < d' → a * d' ≡ a' * d → make (pos a) d ≡ make (pos a') d'
same-fraction a d a' d' h h' e = make-ratio (pos a) d h ∙ (same-ratio a 0 d a' 0 d' h h').1 (omega arith) ∙ sym (make-ratio (pos a') d' h')

den_at_most : (z : ℤ) (d : ℕ) → 0 < d → (make z d).den ≤ d
den_at_most z d h = rw (make_is_divided z d h).1 (div-le_self d (gcd (unsigned_abs z) d))

whole_den : (k : ℕ) → (whole k).den ≡ 1
unfolding whole int
whole_den k = (int_parts (pos k)).1

whole_num : (k : ℕ) → (make (pos k) 1).num ≡ pos k
unfolding int
whole_num k = (int_parts (pos k)).0

times_den : (a : Number) (k : ℕ) → (a *ₙ whole k).den ≤ a.den
unfolding ◌*ₙ◌
times_den a k = subst (λ (x : ℕ). (a *ₙ whole k).den ≤ x) (ap (λ (x : ℕ). a.den * x) (whole_den k) ∙ one_right a.den) (den_at_most _ (a.den * (whole k).den) (mul-pos a.positive (whole k).positive))
  where
    one_right : (x : ℕ) → x * 1 ≡ x
    one_right x = omega arith

-- a denominator stays through further division
pub den_stays : (num den k : ℕ) → 0 < den → 0 < k → gcd num den ≡ 1 → den ≤ (make (pos num) (den * k)).den
den_stays num den k h l e =
    let t : Number = make (pos num) (den * k) in
    let b : make (pos num) (den * k) *ₙ whole k ≡ make (pos num) den = ap₂ ◌*ₙ◌ (make-ratio (pos num) (den * k) (mul-pos h l)) (whole-ratio k 1 (omega arith)) ∙ mul-ratio num 0 (den * k) (k * 1) 0 1 (mul-pos h l) (omega arith)
    ∙ (same-ratio _ _ (den * k * 1) num 0 den (mul-pos (mul-pos h l) (omega arith)) h).1 (omega arith) ∙ sym (make-ratio (pos num) den h) in
    let c : (make (pos num) den).den ≡ den = (make_reduced (pos num) den h e).1 in
    subst (λ (x : ℕ). x ≤ (make (pos num) (den * k)).den) (ap (λ (x : Number). x.den) b ∙ c) (times_den (make (pos num) (den * k)) k)

pub long_den : (num den k : ℕ) (a : Number) → 0 < den → 9223372036854775807 < den → gcd num den ≡ 1 → make (pos num) (den * 10 ^ k) ≡ a → fits a ≡ false
long_den num den k a h l e i = fits_no_den a (subst (λ (x : Number). 2 ^ 63 ≤ x.den) i (omega (arith, den_stays num den (10 ^ k) h (power_pos k) e)))

pub long_num : (p k n : ℕ) → 9223372036854775807 < p → p * 10 ^ k ≡ n → fits (make (pos n) 1) ≡ false
long_num p k n l e = fits_no_num (make (pos n) 1) (subst (λ (x : ℤ). 2 ^ 63 ≤ unsigned_abs x) (sym (whole_num n)) (omega (arith, mul-le-mul_left p (power_pos k))))

pub raised_step : (p l n : ℕ) → 0 < l → p * 10 ^ l ≡ n → p * 10 * 10 ^ (l - 1) ≡ n
raised_step p zero n h e = absurd (omega arith)
raised_step p (suc m) n h e = rw less (omega (arith, ap (λ (x : ℕ). p * x) (pow-succ' 10 m)))
  where
    less : suc m - 1 ≡ m
    less = omega arith

pub record Lowered (num den l : ℕ) (a : Number) (num' den' : ℕ) : Type 0 where
  pub small : num' ≤ num
  pub positive : 0 < den'
  pub short : den' ≤ den * 10
  pub reduced : gcd num' den' ≡ 1
  pub value : make (pos num') (den' * 10 ^ (l - 1)) ≡ a

pub lowered_step : (num den l g : ℕ) (a : Number) → 0 < den → 0 < l → g ≡ gcd num (den * 10) → make (pos num) (den * 10 ^ l) ≡ a → Lowered num den l a (num / g) (den * 10 / g)
lowered_step num den zero g a h k e v = absurd (omega arith)
lowered_step num den (suc m) g a h k e v =
    let p : 0 < den * 10 = omega arith in
    let x : num / g * g ≡ num = rw e (exact (gcd num (den * 10)) num (gcd_is num (den * 10)).0) in
    let y : den * 10 / g * g ≡ den * 10 = rw e (exact (gcd num (den * 10)) (den * 10) (gcd_is num (den * 10)).1) in
    let q : 0 < den * 10 / g = left_positive (den * 10 / g) g (subst (λ (z : ℕ). 0 < z) (sym y) p) in
    record {
      small = div-le_self num g;
      positive = q;
      short = div-le_self (den * 10) g;
      reduced = rw e (gcd_left num (den * 10) p);
      value = rw less (same-fraction _ _ num (den * 10 ^ suc m) (mul-pos q (power_pos m)) (mul-pos h (power_pos (suc m))) (moved (num / g) (den * 10 / g) g num den (10 ^ m) (10 ^ suc m) x y (pow-succ' 10 m)) ∙ v);
    }
  where
    less : suc m - 1 ≡ m
    less = omega arith

    left_positive : (x y : ℕ) → 0 < x * y → 0 < x
    left_positive zero y h = absurd (omega arith)
    left_positive (suc x) y h = omega arith

    moved : (n' d' g n d t t' : ℕ) → n' * g ≡ n → d' * g ≡ d * 10 → t' ≡ 10 * t → n' * (d * t') ≡ n * (d' * t)
    moved n' d' g n d t t' x y e = rw e (omega (arith, ap (λ (z : ℕ). z * (d' * t)) x, ap (λ (z : ℕ). n' * z * t) y))

pub lowered_end : (num den l : ℕ) (a : Number) → 0 < den → (l ≡ 0) ⊎ (num ≡ 0) → make (pos num) (den * 10 ^ l) ≡ a → make (pos num) den ≡ a
lowered_end num den l a h (inl e) v = same-fraction num den num (den * 10 ^ l) h (mul-pos h (power_pos l)) (rw e (omega arith)) ∙ v
lowered_end num den l a h (inr e) v = same-fraction num den num (den * 10 ^ l) h (mul-pos h (power_pos l)) (rw e (omega arith)) ∙ v

pub up_shift : (n u d : ℕ) → d ≤ u → make (pos (n * 10 ^ (u - d))) 1 ≡ make (pos (n * 10 ^ u)) (10 ^ d)
up_shift n u d h = same-fraction _ 1 _ _ (omega arith) (power_pos d) (split (u - d) u (omega arith))
  where
    split : (k w : ℕ) → w ≡ k + d → n * 10 ^ k * 10 ^ d ≡ n * 10 ^ w * 1
    split k w e = rw (e, pow-add 10 k d) (omega arith)

pub down_shift : (n u d : ℕ) → u ≤ d → make (pos n) (10 ^ (d - u)) ≡ make (pos (n * 10 ^ u)) (10 ^ d)
down_shift n u d h = same-fraction _ _ _ _ (power_pos (d - u)) (power_pos d) (split (d - u) d (omega arith))
  where
    split : (k w : ℕ) → w ≡ u + k → n * 10 ^ w ≡ n * 10 ^ u * 10 ^ k
    split k w e = rw (e, pow-add 10 u k) (omega arith)

pub wide_is : (n : ℕ) → n < 2 ^ 127 → to_z w128 n ≡ pos n
wide_is n h = omega (arith, ints)
