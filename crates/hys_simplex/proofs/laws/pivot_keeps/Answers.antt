use Rattle.hys_simplex.proofs.Shown.{pivot_keeps}
use Rattle.hys_simplex.proofs.laws.pivot_keeps.Goals as goal

pub returns : goal.returns
returns c = pivot_keeps
