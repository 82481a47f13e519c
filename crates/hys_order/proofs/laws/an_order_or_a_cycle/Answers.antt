use Rattle.hys_order.proofs.Total.{order_or_cycle}
use Rattle.hys_order.proofs.laws.an_order_or_a_cycle.Goals as goal

pub returns : goal.returns
returns c = order_or_cycle
