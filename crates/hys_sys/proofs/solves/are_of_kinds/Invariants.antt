use Rattle.std.proofs.Common.{ℕ, ◌<◌, HoldsAt}
use Rattle.hys_lin.specs.Sums.{at}
use Rattle.hys_sys.specs.Solution.{IsOfKind}
use Rattle.hys_sys.proofs.solves.are_of_kinds.Given as goal

-- each column that was tried has a number of its kind
abbrev pub invariant-loop-i : goal.invariant-loop-i
invariant-loop-i l = (k : ℕ) → k < l.i → HoldsAt (λ c. IsOfKind c.kind (at l.values k)) l.columns k
