use Rattle.hys_simplex.proofs.Shown.{alike_pivots}
use Rattle.hys_simplex.proofs.laws.alike_pivots.Goals as goal

pub returns : goal.returns
returns c = alike_pivots
