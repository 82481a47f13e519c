use Rattle.std.proofs.Common.{◌≡◌, None}
use Rattle.hys_lin.specs.Operations.{first_lost}
use Rattle.hys_lin.specs.Ranges.{box_at}
use Rattle.hys_relax.specs.BoundSum.{end_operations, summed_ends}
use Rattle.hys_lin.specs.Sums.{at}
use Rattle.hys_lagrange.proofs.bound.ends_sum.Given as goal

abbrev pub invariant-loop-column : goal.invariant-loop-column
invariant-loop-column l = record {
  value : l.sum ≡ summed_ends l.fn.start (at l.coefficients) (box_at l.boxes) l.column;
  lost : first_lost (end_operations l.fn.start (at l.coefficients) (box_at l.boxes) l.column) ≡ None;
}
