use Rattle.hys_answer.proofs.Multiplied.{text_multiplied}
use Rattle.hys_answer.proofs.laws.read_is_multiplied.Goals as goal

pub returns : goal.returns
returns c = text_multiplied
