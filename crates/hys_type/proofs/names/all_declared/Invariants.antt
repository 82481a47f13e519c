use Rattle.std.proofs.Common.{◌≡◌, map, take}
use Rattle.hys_ast.specs.Seen.{decl_of}
use Rattle.hys_type.specs.Made.{declared}
use Rattle.hys_type.proofs.names.all_declared.Given as goal

abbrev pub invariant-loop-decl : goal.invariant-loop-decl
invariant-loop-decl l = l.names.items ≡ map (declared l.fn.known) (map decl_of (take l.decl-index l.decls))
