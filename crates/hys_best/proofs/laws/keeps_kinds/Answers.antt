use Rattle.hys_best.proofs.BooleanStates.{keeps_kinds}
use Rattle.hys_best.proofs.laws.keeps_kinds.Goals as goal

pub returns : goal.returns
returns c = keeps_kinds
