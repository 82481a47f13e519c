use Rattle.hys_simplex.proofs.WorkedPaths.{worked_paths}
use Rattle.hys_simplex.proofs.laws.worked_paths.Goals as goal

pub returns : goal.returns
returns c = worked_paths
