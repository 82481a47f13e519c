use Rattle.hys_file.proofs.OneAnswer.{one_system, one_cause, not_both}
use Rattle.hys_file.proofs.laws.one_answer.Goals as goal

pub returns : goal.returns
returns c = record { system = one_system; cause = one_cause; not_both = not_both }
