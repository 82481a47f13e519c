use Rattle.std.proofs.Common.{◌≡◌, subst, sym}
use Rattle.hys_sys.specs.System.{IsSystem}
use Rattle.hys_stack.proofs.Sampled.{is_system}
use Rattle.hys_stack.proofs.tests.stacked.Goals as goal

pub stack-requires-clause-system : goal.stack-requires-clause-system
stack-requires-clause-system c = subst IsSystem (sym c.in_ok-system.ensures) is_system
