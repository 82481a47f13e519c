use Rattle.std.proofs.Common.{arith}
use Rattle.hys_parse.proofs.Turns.{starts, goes_on, goes_not, ends}
use Rattle.hys_parse.proofs.section.sections.Goals as goal

pub loop-stop-init : goal.loop-stop-init
loop-stop-init c = (omega arith, starts _ _ _)

pub returns-in-Err-clause-gives : goal.returns-in-Err-clause-gives
returns-in-Err-clause-gives c = goes_not c.in-Err.stop _ _ _ _ _ c.in-Err.ensures.gives c.loop-stop.invariant.1

pub returns-then-not-more-clause-gives : goal.returns-then-not-more-clause-gives
returns-then-not-more-clause-gives c = ends _ _ _ _ _ _ _ _ c.in-Ok.ensures.gives c.if-not-more.true c.loop-stop.invariant.1

pub loop-stop-preserved : goal.loop-stop-preserved
loop-stop-preserved c = (
  omega (arith, c.in-Ok.ensures.shorter, c.loop-stop.invariant.0),
  goes_on _ _ _ _ _ _ _ _ c.in-Ok.ensures.gives c.if-not-more.false (c.in-Ok.ensures.takes c.if-not-more.false) c.loop-stop.invariant.1,
)
