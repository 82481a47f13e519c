use Rattle.hys_guard.proofs.Lists.{negated_more}
use Rattle.hys_rows.proofs.demand.negated.Goals as goal

pub loop-term-preserved : goal.loop-term-preserved
loop-term-preserved c = rw (c.in_ok-push.ensures.items, c.neg.ensures) (negated_more c.loop-term.term-index c.args.terms.now c.loop-term.negated.items c.term-item.result c.loop-term-test.true c.term-item.is c.loop-term.invariant)
