use Rattle.hys_examples.proofs.Chosen.{choosing_accepted, holds, fails}
use Rattle.hys_examples.proofs.choices.without_else.Goals as goal

pub returns : goal.returns
returns c = record { accepted = choosing_accepted; holds = holds; fails = fails }
