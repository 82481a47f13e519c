use Rattle.hys_frac.proofs.SignedOrder.{sign_moved, sign_kept}
use Rattle.hys_frac.proofs.quotients.signed_above.Goals as goal

pub returns-then-den-lt0-clause-value : goal.returns-then-den-lt0-clause-value
returns-then-den-lt0-clause-value c = sign_moved c.args.num c.args.den _ c.requires.above c.if-den-lt0.true c.ranges.num c.ranges.den c.unsigned_abs.ensures.value

pub returns-else-den-lt0-clause-value : goal.returns-else-den-lt0-clause-value
returns-else-den-lt0-clause-value c = sign_kept c.args.num c.args.den _ c.requires.below c.if-den-lt0.false c.ranges.num c.ranges.den c.unsigned_abs-else-den-lt0.ensures.value
