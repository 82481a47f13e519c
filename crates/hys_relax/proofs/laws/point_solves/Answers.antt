use Rattle.hys_relax.proofs.Children.{point_solves}
use Rattle.hys_relax.proofs.laws.point_solves.Goals as goal

pub returns : goal.returns
returns c = point_solves
