use Rattle.hys_examples.proofs.Folded.{guard_fits, guard_rows}
use Rattle.hys_examples.proofs.fitting.of_a_guard.Goals as goal

pub returns : goal.returns
returns c = record { fits = guard_fits; numbers = guard_rows }
