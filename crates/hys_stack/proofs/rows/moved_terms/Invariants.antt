use Rattle.std.proofs.Common.{◌≡◌, ◌++◌, ◌+◌, ◌<◌, ◌^◌, drop}
use Rattle.hys_lin.specs.Sums.{EachColumn}
use Rattle.hys_stack.specs.Stacking.{moved}
use Rattle.hys_stack.proofs.rows.moved_terms.Given as goal

abbrev pub invariant-loop-term : goal.invariant-loop-term
invariant-loop-term l = (l.out.items ++ moved l.offset (drop l.term-index l.terms) ≡ moved l.offset l.terms) × EachColumn (λ c. l.offset + c < 2 ^ 32) (drop l.term-index l.terms)
