use Rattle.hys_simplex.proofs.Shown.{path_reaches}
use Rattle.hys_simplex.proofs.laws.path_reaches.Goals as goal

pub returns : goal.returns
returns c = path_reaches
