use Rattle.std.proofs.Common.{◌≡◌, length}
use Rattle.hys_search.proofs.branching.moves.Given as goal

abbrev pub invariant-loop-place : goal.invariant-loop-place
invariant-loop-place l = length l.moves.items ≡ l.place
