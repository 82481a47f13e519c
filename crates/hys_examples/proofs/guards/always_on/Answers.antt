use Rattle.hys_examples.proofs.Guarded.{always_at_three, always_true}
use Rattle.hys_examples.proofs.guards.always_on.Goals as goal

pub returns : goal.returns
returns c = record { three = always_at_three; everywhere = always_true }
