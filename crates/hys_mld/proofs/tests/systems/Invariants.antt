use Rattle.hys_sys.specs.System.{IsSystem}
use Rattle.hys_mld.proofs.tests.systems.Given as goal

abbrev pub invariant-loop-num : goal.invariant-loop-num
invariant-loop-num g l = IsSystem l.guard
