use Rattle.std.proofs.Common.{◌≡◌, ◌++◌, ◌-◌, suc, map}
use Rattle.hys_sys.specs.Exact.{fresh_variables}
use Rattle.hys_exact.specs.Columns.{fresh_column}
use Rattle.hys_mld.proofs.columns.add_fresh.Given as goal

abbrev pub invariant-loop-k : goal.invariant-loop-k
invariant-loop-k l = l.columns.items ++ map fresh_column (fresh_variables (suc l.k) (l.count - l.k)) ≡ l.initial.columns.items ++ map fresh_column (fresh_variables 1 l.count)
