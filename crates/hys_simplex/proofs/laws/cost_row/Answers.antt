use Rattle.hys_simplex.proofs.Shown.{cost_row}
use Rattle.hys_simplex.proofs.laws.cost_row.Goals as goal

pub returns : goal.returns
returns c = cost_row
