-- Signs: that of a number is that of its first part; numbers with the sign turned; whole numbers in order.
use Rattle.std.proofs.Common.{◌≡◌, ℕ, ◌+◌, ◌*◌, ◌<◌, ◌≤◌, ◌^◌, ◌&&◌, ℤ, pos, neg_ℤ, unsigned_abs, nat_lt, ◌<ℤ◌, ◌↔◌, [], refl, sym, ap, ap₂, ◌∙◌, arith}
use borrow.Author.Differences.{ints, up, down}
use Rattle.hys_number.specs.Number.{Number, make_reduced}
use Rattle.hys_number.specs.Gcd.{gcd}
use Rattle.hys_number.specs.Ops.{◌<ₙ◌, ◌≤ₙ◌, int, whole, neg, fits}
use Rattle.hys_number.proofs.Inverse.{int_parts}
use Rattle.hys_number.proofs.Laws.{lt-parts, whole-ratio}
use Rattle.hys_number.proofs.Field.{neg_neg}
use Rattle.hys_number.proofs.Ring.{by_ring, minus, k}
use Rattle.hys_number.proofs.Scale.{overs}

pub whole_parts : (n : ℕ) → ((whole n).num ≡ pos n) × ((whole n).den ≡ 1)
unfolding whole int
whole_parts n = int_parts (pos n)

below_zero_by : (a : Number) (z : ℤ) (d : ℕ) → z ≡ pos 0 → d ≡ 1 → (up a.num * d + down z * a.den < up z * a.den + down a.num * d) ↔ (a.num <ℤ pos 0)
below_zero_by a z d e f = rw (e, f) (λ h. omega (arith, ints), λ h. omega (arith, ints))

above_zero_by : (a : Number) (z : ℤ) (d : ℕ) → z ≡ pos 0 → d ≡ 1 → (up z * a.den + down a.num * d < up a.num * d + down z * a.den) ↔ (pos 0 <ℤ a.num)
above_zero_by a z d e f = rw (e, f) (λ h. omega (arith, ints), λ h. omega (arith, ints))

pub negative_num : (a : Number) → (a.num <ℤ pos 0) ↔ (a <ₙ whole 0)
negative_num a = let h : (up a.num * (whole 0).den + down (whole 0).num * a.den < up (whole 0).num * a.den + down a.num * (whole 0).den) ↔ (a.num <ℤ pos 0) = below_zero_by a (whole 0).num (whole 0).den (whole_parts 0).0 (whole_parts 0).1 in
    (λ l. (lt-parts a (whole 0)).1 (h.1 l), λ l. h.0 ((lt-parts a (whole 0)).0 l))

pub positive_num : (a : Number) → (pos 0 <ℤ a.num) ↔ (whole 0 <ₙ a)
positive_num a = let h : (up (whole 0).num * a.den + down a.num * (whole 0).den < up a.num * (whole 0).den + down (whole 0).num * a.den) ↔ (pos 0 <ℤ a.num) = above_zero_by a (whole 0).num (whole 0).den (whole_parts 0).0 (whole_parts 0).1 in
    (λ l. (lt-parts (whole 0) a).1 (h.1 l), λ l. h.0 ((lt-parts (whole 0) a).0 l))

-- ---- the sign turned
pub abs_neg : (z : ℤ) → unsigned_abs (neg_ℤ z) ≡ unsigned_abs z
abs_neg z = omega (arith, ints)

pub neg_parts : (a : Number) → ((neg a).num ≡ neg_ℤ a.num) × ((neg a).den ≡ a.den)
unfolding neg
neg_parts a = make_reduced (neg_ℤ a.num) a.den a.positive (ap (λ (n : ℕ). gcd n a.den) (abs_neg a.num) ∙ a.reduced)

-- a number fits where the one with the other sign does
pub fits_neg : (a : Number) → fits (neg a) ≡ fits a
unfolding fits
fits_neg a = ap₂ (λ (m n : ℕ). nat_lt m (2 ^ 63) && nat_lt n (2 ^ 63)) (ap unsigned_abs (neg_parts a).0 ∙ abs_neg a.num) (neg_parts a).1

pub neg_is_zero : (a : Number) → neg a ≡ whole 0 → a ≡ whole 0
neg_is_zero a e = sym (neg_neg a) ∙ ap neg e ∙ by_ring [] (minus (k 0)) (k 0) refl

-- ---- whole numbers
pub whole-same : (m n : ℕ) → (whole m ≡ whole n) ↔ (m ≡ n)
whole-same m n = let h : 0 < 1 = omega arith in simp (overs, whole-ratio m 1 h, whole-ratio n 1 h) (λ e. omega arith, λ e. omega arith)

pub whole-le : (m n : ℕ) → (whole m ≤ₙ whole n) ↔ (m ≤ n)
whole-le m n = let h : 0 < 1 = omega arith in simp (overs, whole-ratio m 1 h, whole-ratio n 1 h) (λ e. omega arith, λ e. omega arith)

pub whole-lt : (m n : ℕ) → (whole m <ₙ whole n) ↔ (m < n)
whole-lt m n = let h : 0 < 1 = omega arith in simp (overs, whole-ratio m 1 h, whole-ratio n 1 h) (λ e. omega arith, λ e. omega arith)
