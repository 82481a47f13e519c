use Rattle.std.proofs.Common.{◌≡◌, ◌<◌, length, drop}
use Rattle.hys_number.specs.Ops.{◌+ₙ◌}
use Rattle.hys_lin.specs.Sums.{EachColumn}
use Rattle.hys_lin.specs.Operations.{first_lost, summing, sum_by}
use Rattle.hys_lin.specs.Ranges.{end_at}
use Rattle.hys_lin.proofs.range.end.Given as goal

-- what is still to be added gives the same sum and the same first loss from the partial sum
abbrev pub invariant-loop-term : goal.invariant-loop-term
invariant-loop-term l = record {
  columns : EachColumn (λ c. c < length l.boxes) (drop l.term-index l.terms);
  value : l.fn.form.constant +ₙ sum_by l.terms (end_at l.greatest l.boxes) ≡ l.sum +ₙ sum_by (drop l.term-index l.terms) (end_at l.greatest l.boxes);
  lost : first_lost (summing l.fn.form.constant l.terms (end_at l.greatest l.boxes)) ≡ first_lost (summing l.sum (drop l.term-index l.terms) (end_at l.greatest l.boxes));
}
