use Rattle.hys_number.proofs.Field.{not-le}
use Rattle.hys_number.proofs.Order.{le_refl', le_antisymm, le_trans, le_total}
use Rattle.hys_frac.proofs.laws.order.Goals as goal

pub returns : goal.returns
returns c = record { refl = le_refl'; antisymm = le_antisymm; trans = le_trans; total = le_total; strict = λ a b. ((not-le b a).1, (not-le b a).0) }
