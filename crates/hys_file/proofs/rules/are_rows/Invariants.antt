use Rattle.std.proofs.Common.{◌≡◌, false, drop}
use Rattle.std.specs.List.{AllByRecursion}
use Rattle.hys_lin.specs.Over.{AreTermsOver}
use Rattle.hys_lin.specs.declared.form.Row.{Row}
use Rattle.hys_file.proofs.rules.are_rows.Given as goal

abbrev pub invariant-loop-row : goal.invariant-loop-row
invariant-loop-row l =
    AllByRecursion (λ (x : Row). (x.eq ≡ false) × AreTermsOver l.columns x.terms) (drop l.row-index l.rows) → AllByRecursion (λ (x : Row). (x.eq ≡ false) × AreTermsOver l.columns x.terms) l.rows
