-- Small whole numbers.
use Rattle.std.specs.Prelude.{◌≡◌, ℕ, ◌<◌, ◌≤◌, ℤ, pos, ◌-ℤ◌, neg_ℤ, unsigned_abs}
use Rattle.std.proofs.Common.{arith, to_z, of_z, to_z-of_z, w8, FitsSigned}
use borrow.Author.Differences.{ints, neg_is}
use Rattle.hys_number.specs.Ops.{◌-ₙ◌, neg, whole, int}
use Rattle.hys_number.proofs.Laws.{whole-ratio}
use Rattle.hys_number.proofs.Ring.{int-ratio}
use Rattle.hys_number.proofs.Scale.{overs}

pub int-neg : (k : ℕ) (z : ℤ) → z ≡ neg_ℤ (pos k) → neg (whole k) ≡ int z
int-neg k z e = let h : 0 < 1 = omega arith in rw (int-ratio z, whole-ratio k 1 h) (simp (overs, h) (omega (arith, e, ints, neg_is (pos k))))

pub int-sub : (a b c z : ℤ) → z ≡ a -ℤ b -ℤ c → int z ≡ int a -ₙ int b -ₙ int c
int-sub a b c z e = let h : 0 < 1 = omega arith in rw (int-ratio z, int-ratio a, int-ratio b, int-ratio c) (simp (overs, h) (omega (arith, e, ints)))

-- a small number is the same behind its bits
pub back : (z : ℤ) → unsigned_abs z ≤ 5 → to_z w8 (of_z w8 z) ≡ z
back z h = to_z-of_z (small_fits z h)
  where
    small_fits : (y : ℤ) → unsigned_abs y ≤ 5 → FitsSigned w8 y
    small_fits y h = omega (arith, ints)
