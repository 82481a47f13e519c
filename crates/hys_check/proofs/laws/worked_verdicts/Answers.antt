use Rattle.hys_check.proofs.Rows.{worked_verdicts}
use Rattle.hys_check.proofs.laws.worked_verdicts.Goals as goal

pub returns : goal.returns
returns c = worked_verdicts
