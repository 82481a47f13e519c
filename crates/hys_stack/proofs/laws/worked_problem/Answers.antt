use Rattle.hys_stack.proofs.Examples.{worked_is_stacked}
use Rattle.hys_stack.proofs.laws.worked_problem.Goals as goal

pub returns : goal.returns
returns c = worked_is_stacked
