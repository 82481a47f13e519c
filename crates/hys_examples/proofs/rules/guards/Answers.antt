use Rattle.hys_examples.proofs.Ruled.{guarded_accepted, always_accepted}
use Rattle.hys_examples.proofs.rules.guards.Goals as goal

pub returns : goal.returns
returns c = record { five = guarded_accepted; twenty = always_accepted }
