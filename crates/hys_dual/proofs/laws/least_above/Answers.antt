use Rattle.hys_dual.proofs.Lawful.{least_above}
use Rattle.hys_dual.proofs.laws.least_above.Goals as goal

pub returns : goal.returns
returns c = least_above
