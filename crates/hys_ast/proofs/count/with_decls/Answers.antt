use Rattle.hys_ast.proofs.Counting.{further, decl_here}
use Rattle.hys_ast.proofs.count.with_decls.Goals as goal

pub loop-decl-preserved : goal.loop-decl-preserved
loop-decl-preserved c = λ es count. further es _ _ _ _ (decl_here c.args.decls.now c.loop-decl.decl-index c.decl-item.result c.loop-decl-test.true c.decl-item.is) (c.with_decl-sum.ensures _ (c.loop-decl.invariant es count))
