use Rattle.hys_examples.proofs.Folded.{twice_long}
use Rattle.hys_examples.proofs.fitting.values_first.Goals as goal

pub returns : goal.returns
returns c = record { first = twice_long }
