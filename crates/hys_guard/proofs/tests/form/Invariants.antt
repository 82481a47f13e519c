use Rattle.std.proofs.Common.{◌≡◌}
use Rattle.hys_lin.specs.Sums.{AreTerms, EachColumn}
use Rattle.hys_guard.proofs.tests.form.Given as goal

abbrev pub invariant-loop-pair : goal.invariant-loop-pair
invariant-loop-pair l = AreTerms l.terms.items × EachColumn (λ d. ¬ (d ≡ l.column)) l.terms.items
