use Rattle.hys_examples.proofs.Folded.{switched_fits, switched_rows}
use Rattle.hys_examples.proofs.fitting.of_a_choice.Goals as goal

pub returns : goal.returns
returns c = record { fits = switched_fits; numbers = switched_rows }
