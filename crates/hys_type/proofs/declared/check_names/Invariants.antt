use Rattle.std.proofs.Common.{◌≡◌}
use Rattle.hys_ast.specs.Seen.{decl_of}
use Rattle.hys_type.specs.Declarations.{name_checks}
use Rattle.hys_type.proofs.Walks.{first_from}
use Rattle.hys_type.proofs.declared.check_names.Given as goal

abbrev pub invariant-loop-at : goal.invariant-loop-at
invariant-loop-at l = first_from decl_of name_checks l.decls 0 ≡ first_from decl_of name_checks l.decls l.at
