use Rattle.std.proofs.Common.{◌≡◌, ◌++◌, drop}
use Rattle.hys_type.specs.Built.{sparse_from}
use Rattle.hys_type.proofs.built.sparse.Given as goal

abbrev pub invariant-loop-at : goal.invariant-loop-at
invariant-loop-at l = l.terms.items ++ sparse_from l.at (drop l.at l.factors) ≡ sparse_from 0 l.factors
