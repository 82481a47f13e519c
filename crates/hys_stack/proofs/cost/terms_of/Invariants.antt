use Rattle.std.proofs.Common.{◌≡◌, ◌++◌, drop}
use Rattle.hys_stack.specs.Terms.{terms_from}
use Rattle.hys_stack.proofs.cost.terms_of.Given as goal

abbrev pub invariant-loop-i : goal.invariant-loop-i
invariant-loop-i l = l.terms.items ++ terms_from l.i (drop l.i l.sums) ≡ terms_from 0 l.sums
