use Rattle.hys_frac.specs.Compare.{eq_is}
use Rattle.hys_check.proofs.Comparing.{bit_first, bit_second}
use Rattle.hys_check.proofs.point.is_bit.Goals as goal

pub returns-then-eq : goal.returns-then-eq
returns-then-eq c = bit_first c.args.number c.whole.result c.eq.result c.whole.ensures (eq_is _ _ _ c.eq.ensures) c.if-eq.true

pub returns-else-eq : goal.returns-else-eq
returns-else-eq c = bit_second c.args.number c.whole.result c.whole-else-eq.result c.eq.result c.eq-else-eq.result c.whole.ensures c.whole-else-eq.ensures (eq_is _ _ _ c.eq.ensures) c.if-eq.false (eq_is _ _ _ c.eq-else-eq.ensures)
