use Rattle.hys_order.proofs.Definable.{acyclic}
use Rattle.hys_order.proofs.laws.no_cycle_in_an_order.Goals as goal

pub returns : goal.returns
returns c = acyclic
