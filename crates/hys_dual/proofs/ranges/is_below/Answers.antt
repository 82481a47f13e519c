use Rattle.hys_dual.proofs.Judging.{not_below}
use Rattle.hys_dual.proofs.ranges.is_below.Goals as goal

pub returns-in-Equal : goal.returns-in-Equal
returns-in-Equal c = not_below c.cmp.result c.args.left c.args.right c.cmp.ensures c.in-Equal.is
