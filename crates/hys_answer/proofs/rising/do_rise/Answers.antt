use Rattle.std.proofs.Common.{◌∙◌, sym}
use Rattle.hys_answer.proofs.Multiplied.{pairs_next_counted}
use Rattle.hys_answer.proofs.rising.do_rise.Goals as goal

pub loop-pair-preserved : goal.loop-pair-preserved
loop-pair-preserved c =
    pairs_next_counted c.args.pairs.now c.loop-pair.pair-index c.loop-pair.least c.pair-item.result c.loop-pair-test.true c.pair-item.is c.if-row-least.false (sym c.is_counted.ensures ∙ c.if-not-is_counted.false)
    c.loop-pair.invariant
