use Rattle.hys_examples.proofs.Ruled.{single, empty_refused}
use Rattle.hys_examples.proofs.rules.boxes.Goals as goal

pub returns : goal.returns
returns c = record { empty = empty_refused; single = single }
