use Rattle.std.proofs.Common.{◌≡◌, ◌++◌, drop}
use Rattle.hys_exact.specs.Columns.{of_each}
use Rattle.hys_mld.specs.Columns.{is_of, sort_column}
use Rattle.hys_mld.proofs.columns.add_columns.Given as goal

abbrev pub invariant-loop-n : goal.invariant-loop-n
invariant-loop-n l = l.columns.items ++ of_each (is_of l.sort) (sort_column l.sort l.boxes) l.n (drop l.n l.names) ≡ l.initial.columns.items ++ of_each (is_of l.sort) (sort_column l.sort l.boxes) 0 l.names
