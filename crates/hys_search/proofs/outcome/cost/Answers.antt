use Rattle.std.proofs.Common.{length}
use Rattle.hys_dual.proofs.Finishing.{cost_below}
use Rattle.hys_search.proofs.outcome.cost.Goals as goal

pub value-requires : goal.value-requires
value-requires c = cost_below c.args.problem.now c.requires.problem (length c.args.point.now.values) c.requires.long
