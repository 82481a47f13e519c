use Rattle.std.proofs.Common.{ℕ, ◌<◌, ◌≤◌, length, get_or}
use Rattle.hys_order.proofs.round.least.Given as goal

abbrev pub invariant-loop-k : goal.invariant-loop-k
invariant-loop-k l = (l.place < length l.names) × ((k : ℕ) → k < l.k → get_or l.names l.place 0 ≤ get_or l.names k 0)
