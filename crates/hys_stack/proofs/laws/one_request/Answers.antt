use Rattle.hys_stack.proofs.OneAnswer.{one_request}
use Rattle.hys_stack.proofs.laws.one_request.Goals as goal

pub returns : goal.returns
returns c = one_request
