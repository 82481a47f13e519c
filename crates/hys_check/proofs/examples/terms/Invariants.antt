use Rattle.std.proofs.Common.{◌≡◌, take}
use Rattle.hys_relax.specs.Bound.{weights}
use Rattle.hys_check.proofs.examples.terms.Given as goal

abbrev pub invariant-loop-k : goal.invariant-loop-k
invariant-loop-k l = l.list.items ≡ weights (take l.k l.pairs)
