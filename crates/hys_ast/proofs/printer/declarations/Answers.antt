use Rattle.std.proofs.lemmas.Result.{IfOk-weaker}
use Rattle.hys_ast.proofs.PrintLoops.{decls_end}
use Rattle.hys_ast.proofs.printer.declarations.Goals as goal

pub returns : goal.returns
returns c = IfOk-weaker c.end.result _ _ (λ u e. decls_end c.args.aux c.args.decls.now c.loop-decl.decl-index _ c.loop-decl.out.items _ c.loop-decl.held c.loop-decl-test.false e c.loop-decl.invariant) c.end.ensures
