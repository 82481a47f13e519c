use Rattle.hys_lex.proofs.Fronts.{same_tokens, one_fault, fault_no_cut}
use Rattle.hys_lex.proofs.laws.one_cut.Goals as goal

pub returns : goal.returns
returns c = record { cut = same_tokens; fault = one_fault; apart = λ text fault tokens is cut. fault_no_cut text fault is tokens cut }
