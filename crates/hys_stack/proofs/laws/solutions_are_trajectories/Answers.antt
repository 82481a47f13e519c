use Rattle.hys_stack.proofs.OneToOne.{one_to_one}
use Rattle.hys_stack.proofs.laws.solutions_are_trajectories.Goals as goal

pub returns : goal.returns
returns g c = λ automaton. one_to_one automaton _
