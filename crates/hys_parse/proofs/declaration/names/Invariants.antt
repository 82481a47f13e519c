use Rattle.std.proofs.Common.{◌≤◌, length, map}
use Rattle.hys_ast.specs.Seen.{decl_of}
use Rattle.hys_parse.specs.Sections.{name_turn}
use Rattle.hys_parse.proofs.Turns.{Upto}
use Rattle.hys_parse.proofs.declaration.names.Given as goal

abbrev pub invariant-loop-stop : goal.invariant-loop-stop
invariant-loop-stop l = (length l.rest ≤ length l.tokens) × Upto (name_turn l.room l.section l.kind) (map decl_of l.fn.decls.items) l.tokens (map decl_of l.held.items) l.rest

abbrev pub decreases-loop-stop : goal.decreases-loop-stop
decreases-loop-stop l = length l.rest
