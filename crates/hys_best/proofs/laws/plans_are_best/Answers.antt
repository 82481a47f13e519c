use Rattle.hys_best.proofs.Plans.{plans_are_best}
use Rattle.hys_best.proofs.laws.plans_are_best.Goals as goal

pub returns : goal.returns
returns c = plans_are_best
