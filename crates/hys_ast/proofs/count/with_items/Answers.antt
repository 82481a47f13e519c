use Rattle.hys_ast.proofs.Counting.{further, item_here}
use Rattle.hys_ast.proofs.count.with_items.Goals as goal

pub loop-item-preserved : goal.loop-item-preserved
loop-item-preserved c = λ es count. further es _ _ _ _ (item_here c.args.items.now c.loop-item.item-index c.item-item.result c.loop-item-test.true c.item-item.is) (c.with_shape-sum.ensures _ (c.loop-item.invariant es count))
