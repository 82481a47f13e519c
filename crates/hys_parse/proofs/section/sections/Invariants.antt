use Rattle.std.proofs.Common.{◌≤◌, length}
use Rattle.hys_parse.specs.Sections.{section_turn, draft_of}
use Rattle.hys_parse.proofs.Turns.{Upto}
use Rattle.hys_parse.proofs.section.sections.Given as goal

abbrev pub invariant-loop-stop : goal.invariant-loop-stop
invariant-loop-stop l = (length l.rest ≤ length l.tokens) × Upto (section_turn l.room l.part) (draft_of l.fn.draft) l.tokens (draft_of l.held) l.rest

abbrev pub decreases-loop-stop : goal.decreases-loop-stop
decreases-loop-stop l = length l.rest
