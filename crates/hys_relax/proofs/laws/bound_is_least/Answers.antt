use Rattle.hys_relax.proofs.Bounds.{node_least}
use Rattle.hys_relax.proofs.laws.bound_is_least.Goals as goal

pub returns : goal.returns
returns c = node_least
