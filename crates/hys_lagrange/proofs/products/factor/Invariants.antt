use Rattle.std.proofs.Common.{◌≡◌, drop}
use Rattle.hys_lin.specs.Scaled.{coefficient}
use Rattle.hys_lagrange.proofs.products.factor.Given as goal

-- the factor is that of what is still to come
abbrev pub invariant-loop-term : goal.invariant-loop-term
invariant-loop-term l = coefficient l.terms l.column ≡ coefficient (drop l.term-index l.terms) l.column
