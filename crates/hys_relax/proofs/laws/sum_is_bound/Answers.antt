use Rattle.hys_relax.proofs.BoundSums.{ends_are}
use Rattle.hys_relax.proofs.laws.sum_is_bound.Goals as goal

pub returns : goal.returns
returns c = ends_are
