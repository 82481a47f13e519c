use Rattle.hys_simplex.proofs.WorkedUnfit.{worked_unfit}
use Rattle.hys_simplex.proofs.laws.worked_unfit.Goals as goal

pub returns : goal.returns
returns c = worked_unfit
