use Rattle.hys_relax.proofs.Nodes.{relaxes}
use Rattle.hys_relax.proofs.laws.solution_relaxes.Goals as goal

pub returns : goal.returns
returns c = relaxes
