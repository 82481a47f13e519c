use Rattle.std.proofs.Common.{◌≡◌, map, take}
use Rattle.hys_ast.specs.Seen.{decl_of}
use Rattle.hys_type.specs.Declarations.{box_checks}
use Rattle.hys_type.specs.Made.{program_name}
use Rattle.hys_type.proofs.Walks.{first_from}
use Rattle.hys_type.proofs.names.declared_names.Given as goal

abbrev pub invariant-loop-decl : goal.invariant-loop-decl
invariant-loop-decl l =
    (first_from decl_of (λ before d. box_checks l.fn.known d) l.decls 0 ≡ first_from decl_of (λ before d. box_checks l.fn.known d) l.decls l.decl-index)
    × (l.names.items ≡ map (program_name l.fn.known) (map decl_of (take l.decl-index l.decls)))
