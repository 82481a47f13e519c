use Rattle.hys_stack.proofs.OneToOne.{bound_bounds}
use Rattle.hys_stack.proofs.laws.bounds_hold.Goals as goal

pub returns : goal.returns
returns g c = λ automaton. bound_bounds automaton _
