use Rattle.std.proofs.Common.{◌≡◌, ◌++◌, ◌+◌, ◌<◌, ◌^◌, drop}
use Rattle.hys_lin.specs.Sums.{EachColumn}
use Rattle.hys_stack.specs.Stacking.{moved, opposite}
use Rattle.hys_stack.proofs.rows.opposite_terms.Given as goal

abbrev pub invariant-loop-term : goal.invariant-loop-term
invariant-loop-term l = (l.out.items ++ moved l.offset (opposite (drop l.term-index l.terms)) ≡ moved l.offset (opposite l.terms)) × EachColumn (λ c. l.offset + c < 2 ^ 32) (drop l.term-index l.terms)
