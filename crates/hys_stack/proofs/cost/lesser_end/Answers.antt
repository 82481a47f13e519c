use Rattle.std.proofs.Common.{sym, false}
use Rattle.hys_lin.proofs.Ranging.{end_negative, end_else}
use Rattle.hys_stack.proofs.cost.lesser_end.Goals as goal

pub returns-then-is_negative : goal.returns-then-is_negative
returns-then-is_negative c = sym (end_negative false c.args.factor c.args.bounds (c.is_negative.ensures.0 c.if-is_negative.true))

pub returns-else-is_negative : goal.returns-else-is_negative
returns-else-is_negative c = sym (end_else false c.args.factor c.args.bounds (λ l. absurd (cc (c.is_negative.ensures.1 l, c.if-is_negative.false))))
