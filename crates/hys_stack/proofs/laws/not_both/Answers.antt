use Rattle.hys_stack.proofs.OneAnswer.{not_both}
use Rattle.hys_stack.proofs.laws.not_both.Goals as goal

pub returns : goal.returns
returns c = not_both
