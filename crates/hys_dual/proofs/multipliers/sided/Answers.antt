use Rattle.hys_dual.proofs.Multiplying.{sided_up, sided_down}
use Rattle.hys_dual.proofs.multipliers.sided.Goals as goal

pub returns-then-under : goal.returns-then-under
returns-then-under c = sided_up c.args.under c.args.number c.if-under.true

pub returns-else-under : goal.returns-else-under
returns-else-under c = sided_down c.args.under c.args.number c.neg.result c.if-under.false c.neg.ensures
