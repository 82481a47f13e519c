use Rattle.std.proofs.Common.{◌≡◌, ◌++◌, ◌+◌, drop}
use Rattle.hys_stack.specs.Stacking.{branch_columns}
use Rattle.hys_stack.proofs.rows.push_branch.Given as goal

abbrev pub invariant-loop-column : goal.invariant-loop-column
invariant-loop-column l = (l.out.items ++ branch_columns l.number (drop l.column-index l.columns) ≡ l.fn.out.items ++ branch_columns l.offset l.columns) × (l.number ≡ l.offset + l.column-index)
