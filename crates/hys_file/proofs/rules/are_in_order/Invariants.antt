use Rattle.std.proofs.Common.{drop}
use Rattle.hys_file.proofs.Kept.{Rising}
use Rattle.hys_file.proofs.rules.are_in_order.Given as goal

abbrev pub invariant-loop-column : goal.invariant-loop-column
invariant-loop-column l = Rising l.least (drop l.column-index l.columns) → Rising 0 l.columns
