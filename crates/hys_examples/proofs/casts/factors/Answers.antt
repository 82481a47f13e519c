use Rattle.hys_examples.proofs.Cast.{cancelled_accepted, kept_circular}
use Rattle.hys_examples.proofs.casts.factors.Goals as goal

pub returns : goal.returns
returns c = record { cancelled = cancelled_accepted; kept = kept_circular }
