use Rattle.hys_simplex.proofs.Shown.{below}
use Rattle.hys_simplex.proofs.laws.path_below.Goals as goal

pub returns : goal.returns
returns c = below
