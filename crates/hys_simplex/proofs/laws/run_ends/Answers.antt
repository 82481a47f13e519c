use Rattle.hys_simplex.proofs.Shown.{ends}
use Rattle.hys_simplex.proofs.laws.run_ends.Goals as goal

pub returns : goal.returns
returns c = ends
