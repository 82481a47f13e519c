use Rattle.std.proofs.Common.{◌≡◌, ◌<◌, length, drop}
use Rattle.hys_number.specs.Ops.{◌+ₙ◌}
use Rattle.hys_lin.specs.Sums.{EachColumn, at}
use Rattle.hys_lin.specs.Operations.{first_lost, summing, sum_by}
use Rattle.hys_lin.specs.declared.form.Term.{Term}
use Rattle.hys_lin.proofs.sum.sum_from.Given as goal

-- what is still to be added gives the same sum and the same first loss from the partial sum
abbrev pub invariant-loop-term : goal.invariant-loop-term
invariant-loop-term l = record {
  values : l.values ≡ l.point.values;
  columns : EachColumn (λ c. c < length l.point.values) (drop l.term-index l.terms);
  value : l.fn.start +ₙ sum_by l.terms (λ (t : Term). at l.point.values t.column) ≡ l.sum +ₙ sum_by (drop l.term-index l.terms) (λ (t : Term). at l.point.values t.column);
  lost : first_lost (summing l.fn.start l.terms (λ (t : Term). at l.point.values t.column)) ≡ first_lost (summing l.sum (drop l.term-index l.terms) (λ (t : Term). at l.point.values t.column));
}
