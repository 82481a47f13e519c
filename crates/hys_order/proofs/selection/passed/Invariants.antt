use Rattle.std.proofs.Common.{◌≤◌, ◌-◌, length}
use Rattle.hys_order.specs.Links.{Passed}
use Rattle.hys_order.proofs.selection.passed.Given as goal

abbrev pub invariant-loop-place : goal.invariant-loop-place
invariant-loop-place l = (l.place ≤ length l.names) × Passed l.taken l.names l.place

abbrev pub decreases-loop-place : goal.decreases-loop-place
decreases-loop-place l = length l.names - l.place
