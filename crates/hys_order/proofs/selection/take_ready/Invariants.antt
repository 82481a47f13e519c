use Rattle.std.proofs.Common.{◌≡◌, length}
use Rattle.hys_order.specs.Links.{AreCursors, unset}
use Rattle.hys_order.proofs.Taken.{Onward}
use Rattle.hys_order.proofs.selection.take_ready.Given as goal

-- what is taken from here on is what is taken from the start, after the names so far
abbrev pub invariant-loop-name : goal.invariant-loop-name
invariant-loop-name l = (length l.taken.items ≡ length l.links) × (length l.cursors.items ≡ length l.links) × AreCursors l.taken.items l.links l.cursors.items × Onward l.links l.names l.fn.taken.items l.taken.items l.order.items

abbrev pub decreases-loop-name : goal.decreases-loop-name
decreases-loop-name l = unset l.taken.items
