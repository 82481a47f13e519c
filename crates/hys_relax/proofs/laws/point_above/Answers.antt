use Rattle.hys_relax.proofs.Children.{point_above}
use Rattle.hys_relax.proofs.laws.point_above.Goals as goal

pub returns : goal.returns
returns c = point_above
