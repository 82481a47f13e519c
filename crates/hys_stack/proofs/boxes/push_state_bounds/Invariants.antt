use Rattle.std.proofs.Common.{◌≡◌, ◌++◌, drop}
use Rattle.hys_stack.specs.Requests.{state_columns}
use Rattle.hys_stack.specs.Stacking.{bounds_of}
use Rattle.hys_stack.proofs.boxes.push_state_bounds.Given as goal

abbrev pub invariant-loop-column : goal.invariant-loop-column
invariant-loop-column l = l.out.items ++ bounds_of (state_columns (drop l.column-index l.columns)) ≡ l.fn.out.items ++ bounds_of (state_columns l.columns)
