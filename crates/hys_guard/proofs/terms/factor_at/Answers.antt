use Rattle.std.proofs.Common.{sym, ◌∙◌, ap}
use Rattle.hys_lin.specs.Scaled.{coefficient}
use Rattle.hys_guard.proofs.Lists.{none_left}
use Rattle.hys_guard.proofs.terms.factor_at.Goals as goal

pub returns : goal.returns
returns c = c.whole.ensures ∙ sym (ap (λ ts. coefficient ts c.args.column) (none_left c.loop-term.term-index c.args.terms.now c.loop-term-test.false)) ∙ c.loop-term.invariant
