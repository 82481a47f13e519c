use Rattle.std.proofs.Common.{map, drop}
use Rattle.hys_ast.specs.Seen.{decl_of}
use Rattle.hys_ast.specs.Printed.{decls_words, declared}
use Rattle.hys_ast.proofs.PrintLoops.{Stands}
use Rattle.hys_ast.proofs.printer.declarations.Given as goal

abbrev pub invariant-loop-decl : goal.invariant-loop-decl
invariant-loop-decl l = Stands decls_words l.fn.out.items l.out.items l.held (declared l.aux (map decl_of (drop l.decl-index l.decls))) (declared l.aux (map decl_of l.decls))
