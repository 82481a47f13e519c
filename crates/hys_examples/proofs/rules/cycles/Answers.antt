use Rattle.hys_examples.proofs.Ruled.{round, itself, round_typed, round_refused, itself_refused}
use Rattle.hys_examples.proofs.rules.cycles.Goals as goal

pub returns : goal.returns
returns c = record { two = round; one = itself; refused = (round_refused, itself_refused); typed = round_typed }
