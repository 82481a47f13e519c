use Rattle.std.proofs.Common.{◌≡◌, map}
use Rattle.hys_ast.specs.Seen.{decl_of, item_of}
use Rattle.hys_type.specs.Checks.{missing_checks}
use Rattle.hys_type.proofs.Walks.{first_from}
use Rattle.hys_type.proofs.missing.check_all_defined.Given as goal

abbrev pub invariant-loop-decl : goal.invariant-loop-decl
invariant-loop-decl l = first_from decl_of (λ before d. missing_checks (map item_of l.fn.items) d) l.decls 0 ≡ first_from decl_of (λ before d. missing_checks (map item_of l.fn.items) d) l.decls l.decl-index
