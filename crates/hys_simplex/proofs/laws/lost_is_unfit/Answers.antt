use Rattle.hys_simplex.proofs.Shown.{lost_is_unfit}
use Rattle.hys_simplex.proofs.laws.lost_is_unfit.Goals as goal

pub returns : goal.returns
returns c = lost_is_unfit
