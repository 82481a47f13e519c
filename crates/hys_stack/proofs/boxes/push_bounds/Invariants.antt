use Rattle.std.proofs.Common.{◌≡◌, ◌++◌, drop}
use Rattle.hys_stack.specs.Stacking.{bounds_of}
use Rattle.hys_stack.proofs.boxes.push_bounds.Given as goal

abbrev pub invariant-loop-column : goal.invariant-loop-column
invariant-loop-column l = l.out.items ++ bounds_of (drop l.column-index l.columns) ≡ l.fn.out.items ++ bounds_of l.columns
