use Rattle.std.proofs.Common.{ℕ, drop, IsTrue, ◌⊎◌}
use Rattle.hys_search.proofs.columns.free_among.Given as goal
use Rattle.hys_relax.specs.Node.{is_fixed}
use Rattle.hys_search.specs.Branching.{is_among}

abbrev pub invariant-loop-column : goal.invariant-loop-column
invariant-loop-column l = (c : ℕ) → IsTrue (is_among l.columns c) → IsTrue (is_fixed l.fixings c) ⊎ IsTrue (is_among (drop l.column-index l.columns) c)
