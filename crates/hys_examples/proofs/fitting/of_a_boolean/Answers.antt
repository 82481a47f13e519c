use Rattle.hys_examples.proofs.Folded.{graded_low, graded_high, graded_numbers, graded_rows}
use Rattle.hys_examples.proofs.fitting.of_a_boolean.Goals as goal

pub returns : goal.returns
returns c = record { low = graded_low; high = graded_high; numbers = graded_numbers; rows = graded_rows }
