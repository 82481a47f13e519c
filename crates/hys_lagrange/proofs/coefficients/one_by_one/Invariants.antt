use Rattle.std.proofs.Common.{◌≡◌, None}
use Rattle.hys_lin.specs.Operations.{first_lost}
use Rattle.hys_relax.specs.BoundSum.{joined_to, coefficient_operations, summed_coefficient}
use Rattle.hys_lagrange.specs.Costs.{with_cost}
use Rattle.hys_lagrange.specs.Listed.{listed}
use Rattle.hys_lagrange.proofs.coefficients.one_by_one.Given as goal

abbrev pub invariant-loop-column : goal.invariant-loop-column
invariant-loop-column l = record {
  value : l.list.items ≡ listed l.column (summed_coefficient (with_cost l.problem l.cost) l.pairs);
  lost : first_lost (joined_to l.column (coefficient_operations (with_cost l.problem l.cost) l.pairs)) ≡ None;
}
