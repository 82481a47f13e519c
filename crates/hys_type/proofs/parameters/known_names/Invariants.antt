use Rattle.std.proofs.Common.{◌≡◌, map, take}
use Rattle.hys_ast.specs.Seen.{decl_of}
use Rattle.hys_type.specs.Declarations.{known, value_checks}
use Rattle.hys_type.proofs.Walks.{first_from}
use Rattle.hys_type.proofs.parameters.known_names.Given as goal

abbrev pub invariant-loop-decl : goal.invariant-loop-decl
invariant-loop-decl l =
    (first_from decl_of (value_checks (map decl_of l.decls)) l.decls 0 ≡ first_from decl_of (value_checks (map decl_of l.decls)) l.decls l.decl-index)
    × (l.known.items ≡ known (map decl_of l.decls) (map decl_of (take l.decl-index l.decls)))
