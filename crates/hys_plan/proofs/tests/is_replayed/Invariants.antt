use Rattle.std.proofs.Common.{◌≡◌}
use Rattle.hys_plan.proofs.tests.is_replayed.Given as goal

abbrev pub invariant-loop-k : goal.invariant-loop-k
invariant-loop-k l = l.search.limit ≡ l.nodes
