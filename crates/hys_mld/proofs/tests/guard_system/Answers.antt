use Rattle.std.proofs.Common.{subst, sym}
use Rattle.hys_prog.specs.Programs.{IsProgram}
use Rattle.hys_prog.proofs.Guards.{is_program}
use Rattle.hys_mld.proofs.tests.guard_system.Goals as goal

pub bounds-requires-clause-program : goal.bounds-requires-clause-program
bounds-requires-clause-program c = subst IsProgram (sym c.in_ok-program.ensures) is_program

pub build-requires-clause-program : goal.build-requires-clause-program
build-requires-clause-program c = subst IsProgram (sym c.in_ok-program.ensures) is_program
