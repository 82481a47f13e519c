use Rattle.hys_examples.proofs.Cast.{early, later}
use Rattle.hys_examples.proofs.casts.parameters.Goals as goal

pub returns : goal.returns
returns c = record { early = early; later = later }
