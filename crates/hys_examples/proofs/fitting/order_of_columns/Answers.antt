use Rattle.hys_examples.proofs.Folded.{warm_columns, warm_last}
use Rattle.hys_examples.proofs.fitting.order_of_columns.Goals as goal

pub returns : goal.returns
returns c = record { columns = warm_columns; last = warm_last }
