use Rattle.hys_stack.proofs.OneToOne.{none_is_none}
use Rattle.hys_stack.proofs.laws.none_is_none.Goals as goal

pub returns : goal.returns
returns g c = λ automaton. none_is_none automaton _
