use Rattle.std.proofs.Common.{arith}
use Rattle.hys_number.specs.Gcd.{gcd-one}
use Rattle.hys_frac.proofs.Fracs.{value_along, fits_along}
use Rattle.hys_frac.proofs.Crosswise.{Lowered, lowered, nothing_made}
use Rattle.hys_frac.proofs.scaled.scaled.Goals as goal

pub narrow-requires-clause-reduced : goal.narrow-requires-clause-reduced
narrow-requires-clause-reduced c = gcd-one 0

pub returns-then-num-eq0-clause-value : goal.returns-then-num-eq0-clause-value
returns-then-num-eq0-clause-value c = value_along _ _ c.narrow.result (nothing_made c.args.num c.args.den c.args.up c.args.down c.if-num-eq0.true c.requires.below c.requires.divisor) c.narrow.ensures.value

pub returns-then-num-eq0-clause-fits : goal.returns-then-num-eq0-clause-fits
returns-then-num-eq0-clause-fits c = fits_along _ _ c.narrow.result (nothing_made c.args.num c.args.den c.args.up c.args.down c.if-num-eq0.true c.requires.below c.requires.divisor) c.narrow.ensures.fits

pub nonzero_div-num : goal.nonzero_div-num
nonzero_div-num c = let x : Lowered c.args.num c.args.den c.args.up c.args.down c.gcd-common.result = lowered c.args.num c.args.den c.args.up c.args.down c.gcd-common.result (omega (arith, c.if-num-eq0.false)) c.requires.below c.requires.divisor c.gcd-common.ensures in x.some

pub nonzero_div-den : goal.nonzero_div-den
nonzero_div-den c = let x : Lowered c.args.num c.args.den c.args.up c.args.down c.gcd-common.result = lowered c.args.num c.args.den c.args.up c.args.down c.gcd-common.result (omega (arith, c.if-num-eq0.false)) c.requires.below c.requires.divisor c.gcd-common.ensures in x.some

pub crosswise-requires-clause-above : goal.crosswise-requires-clause-above
crosswise-requires-clause-above c = let x : Lowered c.args.num c.args.den c.args.up c.args.down c.gcd-common.result = lowered c.args.num c.args.den c.args.up c.args.down c.gcd-common.result (omega (arith, c.if-num-eq0.false)) c.requires.below c.requires.divisor c.gcd-common.ensures in x.above

pub crosswise-requires-clause-below : goal.crosswise-requires-clause-below
crosswise-requires-clause-below c = let x : Lowered c.args.num c.args.den c.args.up c.args.down c.gcd-common.result = lowered c.args.num c.args.den c.args.up c.args.down c.gcd-common.result (omega (arith, c.if-num-eq0.false)) c.requires.below c.requires.divisor c.gcd-common.ensures in x.below

pub crosswise-requires-clause-left : goal.crosswise-requires-clause-left
crosswise-requires-clause-left c = let x : Lowered c.args.num c.args.den c.args.up c.args.down c.gcd-common.result = lowered c.args.num c.args.den c.args.up c.args.down c.gcd-common.result (omega (arith, c.if-num-eq0.false)) c.requires.below c.requires.divisor c.gcd-common.ensures in x.reduced

pub returns-clause-value : goal.returns-clause-value
returns-clause-value c = let x : Lowered c.args.num c.args.den c.args.up c.args.down c.gcd-common.result = lowered c.args.num c.args.den c.args.up c.args.down c.gcd-common.result (omega (arith, c.if-num-eq0.false)) c.requires.below c.requires.divisor c.gcd-common.ensures in value_along _ _ c.crosswise.result x.same c.crosswise.ensures.value

pub returns-clause-fits : goal.returns-clause-fits
returns-clause-fits c = let x : Lowered c.args.num c.args.den c.args.up c.args.down c.gcd-common.result = lowered c.args.num c.args.den c.args.up c.args.down c.gcd-common.result (omega (arith, c.if-num-eq0.false)) c.requires.below c.requires.divisor c.gcd-common.ensures in fits_along _ _ c.crosswise.result x.same c.crosswise.ensures.fits
