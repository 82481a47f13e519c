use Rattle.hys_prog.proofs.Fitted.{nothing_stops as by_checks}
use Rattle.hys_prog.proofs.laws.nothing_stops.Goals as goal

pub returns : goal.returns
returns c = λ p o h q x u w v. by_checks p o x u w h q v
