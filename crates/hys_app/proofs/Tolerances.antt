-- The tolerance that words say is above 0.
use Rattle.std.proofs.Common.{◌≡◌, ℤ, pos, ◌<ℤ◌, true, sym, subst, refl, arith}
use borrow.Author.Differences.{ints}
use Rattle.hys_number.specs.Number.{Number, make}
use Rattle.hys_number.specs.Gcd.{gcd}
use Rattle.hys_number.specs.Ops.{◌*ₙ◌, ◌/ₙ◌, ◌<ₙ◌, inverse, int, whole, fits}
use Rattle.hys_number.proofs.Signs.{positive_num}
use Rattle.std.specs.Ordering.{is_lt}
use Rattle.hys_frac.specs.Compare.{number_cmp}
use Rattle.hys_frac.proofs.Comparisons.{is_lt-cmp}
use Rattle.hys_app.specs.Words.{usual_tolerance}

usual_num : usual_tolerance.num ≡ pos 1
unfolding make gcd ◌*ₙ◌ inverse int
usual_num = refl

pub usual_fits : fits (int (pos 1) /ₙ int (pos 1000)) ≡ true
unfolding make gcd ◌*ₙ◌ inverse int fits
usual_fits = refl

above : (a : Number) → a.num ≡ pos 1 → whole 0 <ₙ a
above a e = (positive_num a).0 (subst (λ (z : ℤ). pos 0 <ℤ z) (sym e) (omega (arith, ints)))

pub usual_above : (a : Number) → a ≡ usual_tolerance → whole 0 <ₙ a
usual_above a e = subst (λ (b : Number). whole 0 <ₙ b) (sym e) (above usual_tolerance usual_num)

pub read_above : (a : Number) → is_lt (number_cmp (whole 0) a) ≡ true → whole 0 <ₙ a
read_above a e = (is_lt-cmp (whole 0) a).0 e
