use Rattle.std.proofs.Common.{◌≡◌, subst, sym}
use Rattle.hys_prog.specs.Programs.{IsProgram}
use Rattle.hys_prog.proofs.Guards.{is_program}
use Rattle.hys_prog.proofs.tests.stepped.Goals as goal

pub step-requires-clause-program : goal.step-requires-clause-program
step-requires-clause-program c = subst IsProgram (sym c.in_ok-program.ensures) is_program
