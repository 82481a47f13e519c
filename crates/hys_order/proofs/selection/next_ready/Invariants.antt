use Rattle.std.proofs.Common.{◌≡◌, ℕ, ◌<◌, length, get_or}
use Rattle.hys_order.specs.Links.{Ready, AreCursors}
use Rattle.hys_order.proofs.selection.next_ready.Given as goal

-- none of the names so far is ready
abbrev pub invariant-loop-name : goal.invariant-loop-name
invariant-loop-name l = (length l.cursors.items ≡ length l.links) × AreCursors l.taken l.links l.cursors.items × ((k : ℕ) → k < l.name-index → ¬ (Ready l.taken l.links (get_or l.names k 0)))
