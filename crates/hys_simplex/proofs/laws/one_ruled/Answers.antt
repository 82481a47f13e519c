use Rattle.hys_simplex.proofs.Shown.{one_ruled}
use Rattle.hys_simplex.proofs.laws.one_ruled.Goals as goal

pub returns : goal.returns
returns c = one_ruled
