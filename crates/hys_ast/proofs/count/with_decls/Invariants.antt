use Rattle.std.proofs.Common.{List, ◌++◌, map, take}
use Rattle.hys_ast.specs.Tree.{Tree}
use Rattle.hys_ast.specs.Seen.{decl_of}
use Rattle.hys_ast.specs.Nodes.{decls_expressions, IsCountOf}
use Rattle.hys_ast.proofs.count.with_decls.Given as goal

abbrev pub invariant-loop-decl : goal.invariant-loop-decl
invariant-loop-decl l = (es : List Tree) → IsCountOf es l.fn.count → IsCountOf (es ++ decls_expressions (map decl_of (take l.decl-index l.decls))) l.sum
