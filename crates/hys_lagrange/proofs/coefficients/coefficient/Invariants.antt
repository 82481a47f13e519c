use Rattle.std.proofs.Common.{◌≡◌, drop}
use Rattle.std.specs.List.{AllByRecursion}
use Rattle.hys_number.specs.Ops.{◌+ₙ◌}
use Rattle.hys_lin.specs.Operations.{first_lost, summing, sum_by}
use Rattle.hys_lin.specs.Scaled.{coefficient}
use Rattle.hys_lin.specs.declared.form.Term.{Term}
use Rattle.hys_relax.specs.Bound.{weights, IsLawfulPair}
use Rattle.hys_relax.specs.LinearProgram.{factor_at}
use Rattle.hys_lagrange.proofs.coefficients.coefficient.Given as goal

-- what is still to be added gives the same sum and the same first loss from the partial sum
abbrev pub invariant-loop-k : goal.invariant-loop-k
invariant-loop-k l = record {
  lawful : AllByRecursion (IsLawfulPair l.problem) (drop l.k l.pairs);
  value : coefficient l.cost.terms l.column +ₙ sum_by (weights l.pairs) (λ (t : Term). factor_at l.problem t.column l.column)
      ≡ l.sum +ₙ sum_by (weights (drop l.k l.pairs)) (λ (t : Term). factor_at l.problem t.column l.column);
  lost : first_lost (summing (coefficient l.cost.terms l.column) (weights l.pairs) (λ (t : Term). factor_at l.problem t.column l.column))
      ≡ first_lost (summing l.sum (weights (drop l.k l.pairs)) (λ (t : Term). factor_at l.problem t.column l.column));
}
