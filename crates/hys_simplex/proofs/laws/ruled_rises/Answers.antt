use Rattle.hys_simplex.proofs.Shown.{ruled_rises}
use Rattle.hys_simplex.proofs.laws.ruled_rises.Goals as goal

pub returns : goal.returns
returns c = ruled_rises
