use Rattle.std.proofs.lemmas.Result.{IfOk-weaker}
use Rattle.hys_ast.proofs.PrintLoops.{items_end}
use Rattle.hys_ast.proofs.printer.items.Goals as goal

pub returns : goal.returns
returns c = IfOk-weaker c.end.result _ _ (λ u e. items_end c.args.items.now c.loop-item.item-index _ c.loop-item.out.items _ c.loop-item.held c.loop-item-test.false e c.loop-item.invariant) c.end.ensures
