use Rattle.std.proofs.Common.{◌≡◌, drop}
use Rattle.hys_lin.specs.Scaled.{coefficient}
use Rattle.hys_guard.proofs.terms.factor_at.Given as goal

-- the column isn't among the terms so far
abbrev pub invariant-loop-term : goal.invariant-loop-term
invariant-loop-term l = coefficient (drop l.term-index l.terms) l.column ≡ coefficient l.terms l.column
