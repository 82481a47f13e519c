use Rattle.hys_examples.proofs.Folded.{mixed_rows}
use Rattle.hys_examples.proofs.fitting.of_a_negated_condition.Goals as goal

pub returns : goal.returns
returns c = record { numbers = mixed_rows }
