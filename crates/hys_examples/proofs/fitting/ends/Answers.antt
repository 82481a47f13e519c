use Rattle.hys_examples.proofs.Parts.{ends_fit}
use Rattle.hys_examples.proofs.fitting.ends.Goals as goal

pub returns : goal.returns
returns c = record { fit = ends_fit }
