use Rattle.std.proofs.Common.{◌≤◌, length, ◌-◌}
use Rattle.hys_lex.proofs.Fronts.{Upto}
use Rattle.hys_lex.proofs.cut.tokens.Given as goal

abbrev pub invariant-loop-at : goal.invariant-loop-at
invariant-loop-at l = record { within : l.at ≤ length l.text; upto : Upto l.text l.found.items l.at }

abbrev pub decreases-loop-at : goal.decreases-loop-at
decreases-loop-at l = length l.text - l.at
