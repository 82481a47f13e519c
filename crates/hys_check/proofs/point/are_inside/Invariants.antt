use Rattle.std.proofs.Common.{◌≡◌, drop}
use Rattle.hys_check.specs.Testing.{first_failing}
use Rattle.hys_check.specs.ClaimTests.{box_tests}
use Rattle.hys_check.proofs.point.are_inside.Given as goal

abbrev pub invariant-loop-k : goal.invariant-loop-k
invariant-loop-k l = first_failing (box_tests l.boxes l.values) ≡ first_failing (box_tests (drop l.k l.boxes) (drop l.k l.values))
