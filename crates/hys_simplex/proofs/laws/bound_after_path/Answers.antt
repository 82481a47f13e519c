use Rattle.hys_simplex.proofs.Shown.{bound_after_path}
use Rattle.hys_simplex.proofs.laws.bound_after_path.Goals as goal

pub returns : goal.returns
returns c = bound_after_path
