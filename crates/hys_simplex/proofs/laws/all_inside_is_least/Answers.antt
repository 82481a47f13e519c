use Rattle.hys_simplex.proofs.Shown.{inside_is_least}
use Rattle.hys_simplex.proofs.laws.all_inside_is_least.Goals as goal

pub returns : goal.returns
returns c = inside_is_least
