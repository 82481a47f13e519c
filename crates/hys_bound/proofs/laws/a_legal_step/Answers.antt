use Rattle.hys_bound.proofs.Holding.{legal_takes}
use Rattle.hys_bound.proofs.laws.a_legal_step.Goals as goal

pub returns : goal.returns
returns c = legal_takes
