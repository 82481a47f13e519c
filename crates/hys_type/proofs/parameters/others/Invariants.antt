use Rattle.std.proofs.Common.{◌≡◌, ◌++◌, map, drop}
use Rattle.hys_ast.specs.Seen.{decl_of}
use Rattle.hys_type.specs.Declarations.{others}
use Rattle.hys_type.proofs.parameters.others.Given as goal

abbrev pub invariant-loop-decl : goal.invariant-loop-decl
invariant-loop-decl l = l.known.items ++ others (map decl_of (drop l.decl-index l.decls)) ≡ others (map decl_of l.decls)
