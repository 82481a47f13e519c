use Rattle.hys_relax.proofs.Bounds.{node_never}
use Rattle.hys_relax.proofs.laws.no_relaxed_point.Goals as goal

pub returns : goal.returns
returns c = node_never
