use Rattle.std.proofs.Common.{ℕ, ◌<◌, get_or}
use Rattle.hys_search.proofs.tree.kept.Given as goal
use Rattle.hys_search.specs.Core.{IsNotOpenKept, core}

abbrev pub invariant-loop-i : goal.invariant-loop-i
invariant-loop-i l = (k : ℕ) → k < l.i → IsNotOpenKept (core l.table) (get_or l.order.items k 0)
