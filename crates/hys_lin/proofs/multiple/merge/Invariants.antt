use Rattle.std.proofs.Common.{◌≡◌, ◌++◌, ◌≤◌, ◌+◌, ◌-◌, drop, length}
use Rattle.hys_lin.specs.Sums.{AreTerms}
use Rattle.hys_lin.specs.Scaled.{merged}
use Rattle.hys_lin.proofs.Merging.{SameLoss}
use Rattle.hys_lin.proofs.multiple.merge.Given as goal

-- what is left of the two lists completes the terms, and loses first what the whole does
abbrev pub invariant-loop-i : goal.invariant-loop-i
invariant-loop-i l = record {
  left : l.i ≤ length l.left;
  right : l.j ≤ length l.right;
  items : l.out.items ++ merged (drop l.i l.left) l.by (drop l.j l.right) ≡ l.fn.out.items ++ merged l.left l.by l.right;
  lost : AreTerms l.left → AreTerms l.right → SameLoss l.left l.by l.right (drop l.i l.left) (drop l.j l.right);
}

abbrev pub decreases-loop-i : goal.decreases-loop-i
decreases-loop-i l = (length l.left - l.i) + (length l.right - l.j)
