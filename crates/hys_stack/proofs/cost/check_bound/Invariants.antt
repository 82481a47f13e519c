use Rattle.std.proofs.Common.{◌≡◌, None}
use Rattle.hys_lin.specs.Sums.{at}
use Rattle.hys_lin.specs.Ranges.{box_at}
use Rattle.hys_lin.specs.Operations.{first_lost}
use Rattle.hys_relax.specs.BoundSum.{end_operations, summed_ends}
use Rattle.hys_stack.proofs.cost.check_bound.Given as goal

-- nothing is lost so far
abbrev pub invariant-loop-i : goal.invariant-loop-i
invariant-loop-i l = record {
  bound : l.bound ≡ summed_ends l.fn.constant (at l.sums) (box_at l.boxes) l.i;
  fits : first_lost (end_operations l.fn.constant (at l.sums) (box_at l.boxes) l.i) ≡ None;
}
