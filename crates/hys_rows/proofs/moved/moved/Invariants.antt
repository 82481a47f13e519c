use Rattle.std.proofs.Common.{◌≡◌, ◌<◌, [], drop, length}
use Rattle.hys_lin.specs.Sums.{EachColumn}
use Rattle.hys_rows.specs.Moved.{moved_onto}
use Rattle.hys_rows.proofs.moved.moved.Given as goal

-- the terms so far with those to come are all
abbrev pub invariant-loop-term : goal.invariant-loop-term
invariant-loop-term l = record {
  within : EachColumn (λ n. n < length l.columns) (drop l.term-index l.fn.form.terms);
  all : moved_onto l.columns l.terms.items (drop l.term-index l.fn.form.terms) ≡ moved_onto l.columns [] l.fn.form.terms;
}
