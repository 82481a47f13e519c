use Rattle.hys_simplex.proofs.Shown.{goes_on}
use Rattle.hys_simplex.proofs.laws.path_goes_on.Goals as goal

pub returns : goal.returns
returns c = goes_on
