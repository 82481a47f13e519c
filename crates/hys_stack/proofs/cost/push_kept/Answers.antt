use Rattle.std.proofs.Common.{◌++◌, List, sym, ap, ◌∙◌, append-nil}
use Rattle.hys_lin.specs.declared.form.Term.{Term}
use Rattle.hys_lin.proofs.Multiples.{kept_none, kept_some}
use Rattle.hys_stack.proofs.cost.push_kept.Goals as goal

pub returns-then-is_zero : goal.returns-then-is_zero
returns-then-is_zero c = sym (ap (λ (ts : List Term). c.args.out.now.items ++ ts) (kept_none c.args.column c.args.factor (c.is_zero.ensures.0 c.if-is_zero.true)) ∙ append-nil c.args.out.now.items)

pub returns : goal.returns
returns c = rw (kept_some c.args.column c.args.factor (λ e. absurd (cc (c.is_zero.ensures.1 e, c.if-is_zero.false)))) c.push.ensures.items
