use Rattle.hys_prog.specs.Guarded.{guarded, d_first}
use Rattle.hys_prog.proofs.Guards.{is_program, is_order}
use Rattle.hys_exact.specs.Example.{guard_system}
use Rattle.hys_exact.proofs.Example.{guard_is_built}
use Rattle.hys_exact.proofs.Exactness.{exact_system}
use Rattle.hys_exact.proofs.laws.guard_is_built.Goals as goal

pub returns-clause-built : goal.returns-clause-built
returns-clause-built c = guard_is_built

pub returns-clause-exact : goal.returns-clause-exact
returns-clause-exact c = exact_system guarded d_first guard_system is_program is_order guard_is_built
