use Rattle.std.proofs.Common.{◌≡◌, ◌<◌, ◌+◌, ℕ, length, slice_index_or}
use Rattle.hys_tab.proofs.tableau.numbers.Given as goal

abbrev pub invariant-loop-i : goal.invariant-loop-i
invariant-loop-i l = (length l.list.items ≡ l.count) × ((q : ℕ) → q < l.i → slice_index_or l.list.items q 0 ≡ l.first + q)
