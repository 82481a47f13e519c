use Rattle.std.proofs.Common.{◌≡◌, ◌++◌, length}
use Rattle.hys_search.proofs.tree.order.Given as goal
use Rattle.hys_search.proofs.Preorder.{EachBelow, stacked}
use Rattle.hys_search.specs.Nodes.{labels, shape}

abbrev pub invariant-loop-place : goal.invariant-loop-place
invariant-loop-place l = EachBelow (length l.nodes) l.stack.items × (l.order.items ++ stacked l.nodes l.stack.items ≡ labels (shape l.nodes))

abbrev pub decreases-loop-place : goal.decreases-loop-place
decreases-loop-place l = length (stacked l.nodes l.stack.items)
