-- The verdicts on the worked tree compute.
use Rattle.std.proofs.Common.{refl}
use Rattle.hys_number.specs.Number.{make}
use Rattle.hys_number.specs.Gcd.{gcd}
use Rattle.hys_number.specs.Ops.{◌+ₙ◌, ◌*ₙ◌, neg, whole, fits}
use Rattle.hys_frac.specs.Compare.{number_cmp}
use Rattle.hys_lin.specs.Sums.{value}
use Rattle.hys_check.specs.Worked.{WorkedVerdicts}

pub worked_verdicts : WorkedVerdicts
unfolding ◌+ₙ◌ ◌*ₙ◌ neg whole make gcd fits number_cmp value
worked_verdicts = record {
  right = refl;
  sign = refl;
  below = refl;
  range = refl;
  fixed = refl;
  early = refl;
  late = refl;
  cost = refl;
  short = refl;
}
