use Rattle.hys_relax.proofs.Bounds.{prefix_bound}
use Rattle.hys_relax.proofs.laws.bound_of_prefix.Goals as goal

pub returns : goal.returns
returns c = prefix_bound
