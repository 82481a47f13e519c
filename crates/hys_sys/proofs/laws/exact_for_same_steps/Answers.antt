use Rattle.hys_sys.proofs.Carrying.{exact_for}
use Rattle.hys_sys.proofs.laws.exact_for_same_steps.Goals as goal

pub returns : goal.returns
returns c s = λ h automaton system e. exact_for _ _ h automaton system e
