use Rattle.hys_examples.proofs.Once.{right, twice, value, boxed, missing, again}
use Rattle.hys_examples.proofs.rules.once.Goals as goal

pub returns : goal.returns
returns c = record { right = right; twice = twice; value = value; boxed = boxed; missing = missing; again = again }
