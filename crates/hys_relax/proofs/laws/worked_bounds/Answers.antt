use Rattle.hys_relax.proofs.Examples.{worked_bounds}
use Rattle.hys_relax.proofs.laws.worked_bounds.Goals as goal

pub returns : goal.returns
returns c = worked_bounds
