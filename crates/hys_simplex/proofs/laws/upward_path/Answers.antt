use Rattle.hys_simplex.proofs.UpwardPath.{upward_path}
use Rattle.hys_simplex.proofs.laws.upward_path.Goals as goal

pub returns : goal.returns
returns c = upward_path
