use Rattle.hys_dual.proofs.Finishing.{NoneLostBelow}
use Rattle.hys_dual.proofs.point.lost_row.Given as goal

abbrev pub invariant-loop-row : goal.invariant-loop-row
invariant-loop-row l = NoneLostBelow l.problem l.point.values l.row
