use Rattle.hys_stack.proofs.OneToOne.{least_is_cheapest}
use Rattle.hys_stack.proofs.laws.least_is_cheapest.Goals as goal

pub returns : goal.returns
returns g c = λ automaton. least_is_cheapest automaton _
