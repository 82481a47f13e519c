use Rattle.std.proofs.Common.{◌+◌}
use Rattle.hys_logic.proofs.Truths.{below_more}
use Rattle.hys_rows.proofs.formula.add_defined.Goals as goal

pub returns-clause-added : goal.returns-clause-added
returns-clause-added c = (
  c.in_ok-logic.logic.rows,
  c.in_ok-add_all.ensures,
  c.in_ok-logic.ensures.stated,
  λ n l. below_more (c.args.first_free + c.in_ok-logic.logic.fresh) n c.in_ok-logic.logic.rows (rw (c.in_ok-logic.ensures.fresh) l) c.in_ok-logic.ensures.below.0,
)
