use Rattle.std.proofs.Common.{◌≡◌, take}
use Rattle.hys_guard.specs.Set.{negated as negated_terms}
use Rattle.hys_rows.proofs.demand.negated.Given as goal

-- the terms so far are negated
abbrev pub invariant-loop-term : goal.invariant-loop-term
invariant-loop-term l = l.negated.items ≡ negated_terms (take l.term-index l.terms)
