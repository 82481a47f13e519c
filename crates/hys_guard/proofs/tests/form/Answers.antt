use Rattle.std.proofs.Common.{◌≡◌}
use Rattle.hys_guard.proofs.Lists.{set_terms, set_each}
use Rattle.hys_guard.proofs.tests.form.Goals as goal

pub loop-pair-preserved : goal.loop-pair-preserved
loop-pair-preserved c = (
  set_terms _ _ _ c.loop-pair.terms.items c.set_factor.new.terms.items c.in_ok-set_factor.ensures c.loop-pair.invariant.0,
  set_each (λ d. ¬ (d ≡ c.args.column)) _ _ _ c.loop-pair.terms.items c.set_factor.new.terms.items c.in_ok-set_factor.ensures c.if-pair-column.false c.loop-pair.invariant.1,
)

pub returns-clause-apart : goal.returns-clause-apart
returns-clause-apart c = rw (c.of.ensures) c.loop-pair.invariant.1
