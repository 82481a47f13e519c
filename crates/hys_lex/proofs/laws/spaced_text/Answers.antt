use Rattle.hys_lex.proofs.Spacing.{spaced_cut, respelled}
use Rattle.hys_lex.proofs.laws.spaced_text.Goals as goal

pub returns : goal.returns
returns c = record { cut = spaced_cut; read = respelled }
