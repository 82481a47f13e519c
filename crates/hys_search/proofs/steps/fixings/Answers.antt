use Rattle.std.proofs.Common.{◌∙◌, arith}
use Rattle.hys_search.proofs.steps.fixings.Goals as goal
use Rattle.hys_search.proofs.Walk.{walk_up, walked}

pub loop-at-preserved : goal.loop-at-preserved
loop-at-preserved c = walk_up c.args.nodes.now c.loop-at.at c.requires.parents (omega arith) c.loop-at.invariant.0 _ _ _ c.loop-at.invariant.1 c.in_ok-push.ensures.items

pub returns : goal.returns
returns c = c.reverse.ensures.items ∙ walked c.args.nodes.now c.loop-at.at c.loop-at.found.items _ (omega arith) c.loop-at.invariant.1
