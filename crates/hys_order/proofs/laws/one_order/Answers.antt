use Rattle.hys_order.proofs.Definable.{one_order}
use Rattle.hys_order.proofs.laws.one_order.Goals as goal

pub returns : goal.returns
returns c = one_order
