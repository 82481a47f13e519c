use Rattle.hys_sim.proofs.Columning.{kinds_stop}
use Rattle.hys_sim.proofs.header.kinds_of.Goals as goal

pub returns-in-Err-clause-judged : goal.returns-in-Err-clause-judged
returns-in-Err-clause-judged c =
    kinds_stop c.args.which _ _ c.args.columns.now c.loop-place.place _ c.in-Err.fault c.loop-place-test.true c.loop-place.invariant.judged c.in-Err.ensures.judged
