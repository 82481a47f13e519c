use Rattle.std.proofs.Common.{◌≡◌, drop}
use Rattle.std.specs.List.{AllByRecursion}
use Rattle.hys_number.specs.Ops.{◌-ₙ◌}
use Rattle.hys_lin.specs.Operations.{first_lost, sum_by}
use Rattle.hys_lin.specs.declared.form.Term.{Term}
use Rattle.hys_relax.specs.Bound.{weights, IsLawfulPair}
use Rattle.hys_relax.specs.BoundSum.{subtracting}
use Rattle.hys_relax.specs.LinearProgram.{row_at}
use Rattle.hys_lagrange.proofs.bound.constant_sum.Given as goal

-- what is still to be taken away gives the same difference and the same first loss from the partial one
abbrev pub invariant-loop-k : goal.invariant-loop-k
invariant-loop-k l = record {
  lawful : AllByRecursion (IsLawfulPair l.problem) (drop l.k l.pairs);
  value : l.cost.constant -ₙ sum_by (weights l.pairs) (λ (t : Term). (row_at l.problem t.column).bound)
      ≡ l.sum -ₙ sum_by (weights (drop l.k l.pairs)) (λ (t : Term). (row_at l.problem t.column).bound);
  lost : first_lost (subtracting l.cost.constant (weights l.pairs) (λ (t : Term). (row_at l.problem t.column).bound))
      ≡ first_lost (subtracting l.sum (weights (drop l.k l.pairs)) (λ (t : Term). (row_at l.problem t.column).bound));
}
