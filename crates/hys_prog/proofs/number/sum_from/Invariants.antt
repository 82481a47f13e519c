use Rattle.std.proofs.Common.{◌≡◌, drop}
use Rattle.hys_number.specs.Ops.{◌+ₙ◌}
use Rattle.hys_lin.specs.Sums.{at}
use Rattle.hys_lin.specs.Operations.{first_lost, summing, sum_by}
use Rattle.hys_lin.specs.declared.form.Term.{Term}
use Rattle.hys_prog.proofs.number.sum_from.Given as goal

-- what is still to be added gives the same sum and the same first loss from the partial sum
abbrev pub invariant-loop-term : goal.invariant-loop-term
invariant-loop-term l = record {
  value : l.fn.start +ₙ sum_by l.terms (λ (t : Term). at l.values t.column) ≡ l.sum +ₙ sum_by (drop l.term-index l.terms) (λ (t : Term). at l.values t.column);
  lost : first_lost (summing l.fn.start l.terms (λ (t : Term). at l.values t.column)) ≡ first_lost (summing l.sum (drop l.term-index l.terms) (λ (t : Term). at l.values t.column));
}
