use Rattle.hys_examples.proofs.Cast.{sum, small}
use Rattle.hys_examples.proofs.casts.numbers.Goals as goal

pub returns : goal.returns
returns c = record { sum = sum; small = small }
