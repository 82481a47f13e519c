use Rattle.std.proofs.Common.{◌≡◌, drop, true}
use Rattle.hys_check.specs.TreeTests.{are_rows, are_signed}
use Rattle.hys_check.proofs.leaf.are_signed.Given as goal

abbrev pub invariant-loop-k : goal.invariant-loop-k
invariant-loop-k l = record {
  there : are_rows l.problem (drop l.k l.pairs) ≡ true;
  same : are_signed l.problem l.pairs ≡ are_signed l.problem (drop l.k l.pairs);
}
