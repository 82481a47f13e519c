use Rattle.std.proofs.Common.{◌≡◌, ◌≤◌, length, drop}
use Rattle.hys_lagrange.proofs.Written.{IsWrittenFrom}
use Rattle.hys_lagrange.proofs.node.node_boxes.Given as goal

abbrev pub invariant-loop-left : goal.invariant-loop-left
invariant-loop-left l = record {
  within : l.left ≤ length l.fixings;
  long : length l.boxes.items ≡ length l.problem.boxes;
  written : IsWrittenFrom l.problem (drop l.left l.fixings) l.boxes.items;
}

abbrev pub decreases-loop-left : goal.decreases-loop-left
decreases-loop-left l = l.left
