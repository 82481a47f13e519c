use Rattle.hys_frac.proofs.Fracs.{value_along, fits_beside, quotient_negative, quotient_positive, not_zero}
use Rattle.hys_frac.proofs.frac.quotient.Goals as goal

pub returns-then-den-lt0-clause-value : goal.returns-then-den-lt0-clause-value
returns-then-den-lt0-clause-value c = value_along _ _ c.reduce.result (quotient_negative c.args.num c.args.den c.requires.above c.requires.below c.if-den-lt0.true c.ranges.num c.ranges.den) c.reduce.ensures.value

pub returns-then-den-lt0-clause-fits : goal.returns-then-den-lt0-clause-fits
returns-then-den-lt0-clause-fits c = fits_beside _ _ c.reduce.result (not_zero c.args.den c.if-den-eq0.false) (quotient_negative c.args.num c.args.den c.requires.above c.requires.below c.if-den-lt0.true c.ranges.num c.ranges.den) c.reduce.ensures.fits

pub returns-else-den-lt0-clause-value : goal.returns-else-den-lt0-clause-value
returns-else-den-lt0-clause-value c = value_along _ _ c.reduce-else-den-lt0.result (quotient_positive c.args.num c.args.den c.if-den-eq0.false c.if-den-lt0.false c.ranges.num c.ranges.den) c.reduce-else-den-lt0.ensures.value

pub returns-else-den-lt0-clause-fits : goal.returns-else-den-lt0-clause-fits
returns-else-den-lt0-clause-fits c = fits_beside _ _ c.reduce-else-den-lt0.result (not_zero c.args.den c.if-den-eq0.false) (quotient_positive c.args.num c.args.den c.if-den-eq0.false c.if-den-lt0.false c.ranges.num c.ranges.den) c.reduce-else-den-lt0.ensures.fits
