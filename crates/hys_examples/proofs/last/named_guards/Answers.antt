use Rattle.hys_examples.proofs.Tolerant.{last_form}
use Rattle.hys_examples.proofs.last.named_guards.Goals as goal

pub returns : goal.returns
returns c = last_form
