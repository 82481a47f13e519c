use Rattle.hys_dual.proofs.Lawful.{warm_below}
use Rattle.hys_dual.proofs.laws.warm_below.Goals as goal

pub returns : goal.returns
returns c = warm_below
