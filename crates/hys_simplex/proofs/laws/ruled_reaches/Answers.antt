use Rattle.hys_simplex.proofs.Shown.{ruled_reaches}
use Rattle.hys_simplex.proofs.laws.ruled_reaches.Goals as goal

pub returns : goal.returns
returns c = ruled_reaches
