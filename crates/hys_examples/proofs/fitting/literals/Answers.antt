use Rattle.hys_examples.proofs.Folded.{most, tiny, long, small}
use Rattle.hys_examples.proofs.fitting.literals.Goals as goal

pub returns : goal.returns
returns c = record { most = most; least = tiny; long = long; small = small }
