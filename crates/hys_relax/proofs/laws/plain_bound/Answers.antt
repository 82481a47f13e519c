use Rattle.hys_relax.proofs.Bounds.{plain_below}
use Rattle.hys_relax.proofs.laws.plain_bound.Goals as goal

pub returns : goal.returns
returns c = plain_below
