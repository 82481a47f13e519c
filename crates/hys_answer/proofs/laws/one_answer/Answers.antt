use Rattle.hys_answer.proofs.OneAnswer.{one_reading, one_cause, not_both}
use Rattle.hys_answer.proofs.laws.one_answer.Goals as goal

pub returns : goal.returns
returns c = record { answer = one_reading; cause = one_cause; not_both = not_both }
