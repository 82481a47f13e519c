use Rattle.hys_examples.proofs.Folded.{decided_rows}
use Rattle.hys_examples.proofs.fitting.of_a_decided_condition.Goals as goal

pub returns : goal.returns
returns c = record { numbers = decided_rows }
