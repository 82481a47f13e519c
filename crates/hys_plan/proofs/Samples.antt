-- The numbers of the plain bounds of the tests' problems fit.
use Rattle.std.proofs.Common.{[], refl}
use Rattle.hys_number.specs.Number.{make}
use Rattle.hys_number.specs.Gcd.{gcd}
use Rattle.hys_number.specs.Ops.{◌+ₙ◌, ◌*ₙ◌, neg, whole, fits}
use Rattle.hys_relax.specs.BoundSum.{BoundFits}
use Rattle.hys_relax.specs.Worked.{worked}
use Rattle.hys_dual.specs.Cases.{barred}

pub switches_fit : BoundFits worked [] []
unfolding ◌+ₙ◌ ◌*ₙ◌ neg whole make gcd fits
switches_fit = refl

pub never_fits : BoundFits barred [] []
unfolding ◌+ₙ◌ ◌*ₙ◌ neg whole make gcd fits
never_fits = refl
