use Rattle.hys_lex.proofs.Total.{has_end}
use Rattle.hys_lex.proofs.laws.cut_or_fault.Goals as goal

pub returns : goal.returns
returns c = has_end
