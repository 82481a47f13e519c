use Rattle.std.proofs.Common.{◌≤◌, length, map}
use Rattle.hys_ast.specs.Seen.{item_of}
use Rattle.hys_parse.specs.Sections.{item_turn}
use Rattle.hys_parse.proofs.Turns.{Upto}
use Rattle.hys_parse.proofs.item.items.Given as goal

abbrev pub invariant-loop-stop : goal.invariant-loop-stop
invariant-loop-stop l = (length l.rest ≤ length l.tokens) × Upto (item_turn l.room l.section) (map item_of l.fn.items.items) l.tokens (map item_of l.held.items) l.rest

abbrev pub decreases-loop-stop : goal.decreases-loop-stop
decreases-loop-stop l = length l.rest
