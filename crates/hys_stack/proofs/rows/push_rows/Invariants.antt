use Rattle.std.proofs.Common.{◌≡◌, ◌++◌, drop, map}
use Rattle.hys_stack.specs.Stacking.{moved_row}
use Rattle.hys_stack.proofs.rows.push_rows.Given as goal

abbrev pub invariant-loop-row : goal.invariant-loop-row
invariant-loop-row l = l.out.items ++ map (moved_row l.offset) (drop l.row-index l.rows) ≡ l.fn.out.items ++ map (moved_row l.offset) l.rows
