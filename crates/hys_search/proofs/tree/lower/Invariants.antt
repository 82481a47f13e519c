use Rattle.hys_search.proofs.tree.lower.Given as goal
use Rattle.hys_search.specs.Places.{IsLowest}

abbrev pub invariant-loop-i : goal.invariant-loop-i
invariant-loop-i l = IsLowest l.table.nodes.items l.table.certificates.items l.i l.least
