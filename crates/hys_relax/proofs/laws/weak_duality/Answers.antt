use Rattle.hys_relax.proofs.Bounds.{node_duality}
use Rattle.hys_relax.proofs.laws.weak_duality.Goals as goal

pub returns : goal.returns
returns c = node_duality
