use Rattle.std.proofs.Common.{◌≡◌, drop}
use Rattle.hys_check.specs.Testing.{first_failing}
use Rattle.hys_check.specs.ClaimTests.{bit_tests}
use Rattle.hys_check.proofs.point.are_bits.Given as goal

abbrev pub invariant-loop-k : goal.invariant-loop-k
invariant-loop-k l = first_failing (bit_tests l.values l.branch) ≡ first_failing (bit_tests l.values (drop l.k l.branch))
