use Rattle.std.proofs.Common.{◌≡◌, drop}
use Rattle.hys_check.specs.TreeTests.{are_rows}
use Rattle.hys_check.proofs.leaf.are_there.Given as goal

abbrev pub invariant-loop-k : goal.invariant-loop-k
invariant-loop-k l = are_rows l.problem l.pairs ≡ are_rows l.problem (drop l.k l.pairs)
