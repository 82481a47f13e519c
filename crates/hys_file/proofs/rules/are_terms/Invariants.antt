use Rattle.std.proofs.Common.{◌≡◌, drop}
use Rattle.hys_file.proofs.Lawful.{AreNextTerms}
use Rattle.hys_file.proofs.rules.are_terms.Given as goal

abbrev pub invariant-loop-term : goal.invariant-loop-term
invariant-loop-term l =
    (l.before.columns ≡ l.columns) × (AreNextTerms l.columns l.before.least (drop l.term-index l.terms) → AreNextTerms l.columns 0 l.terms)
