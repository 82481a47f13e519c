use Rattle.hys_simplex.proofs.Shown.{unfit_is_ruled}
use Rattle.hys_simplex.proofs.laws.unfit_is_ruled.Goals as goal

pub returns : goal.returns
returns c = unfit_is_ruled
