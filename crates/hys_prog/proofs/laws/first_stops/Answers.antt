use Rattle.hys_prog.proofs.Fitted.{is_first_stop}
use Rattle.hys_prog.proofs.laws.first_stops.Goals as goal

pub returns : goal.returns
returns c = is_first_stop
