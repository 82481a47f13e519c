use Rattle.hys_simplex.proofs.Shown.{blocked_row}
use Rattle.hys_simplex.proofs.laws.blocked_row.Goals as goal

pub returns : goal.returns
returns c = blocked_row
