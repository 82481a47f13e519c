use Rattle.hys_examples.proofs.Cast.{casting_accepted, one, not_both, between}
use Rattle.hys_examples.proofs.casts.casts.Goals as goal

pub returns : goal.returns
returns c = record { accepted = casting_accepted; one = one; both = not_both; between = between }
