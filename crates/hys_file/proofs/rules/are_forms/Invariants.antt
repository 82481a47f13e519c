use Rattle.std.proofs.Common.{drop}
use Rattle.std.specs.List.{AllByRecursion}
use Rattle.hys_lin.specs.Over.{AreTermsOver}
use Rattle.hys_lin.specs.declared.form.Affine.{Affine}
use Rattle.hys_file.proofs.rules.are_forms.Given as goal

abbrev pub invariant-loop-form : goal.invariant-loop-form
invariant-loop-form l =
    AllByRecursion (λ (x : Affine). AreTermsOver l.columns x.terms) (drop l.form-index l.forms) → AllByRecursion (λ (x : Affine). AreTermsOver l.columns x.terms) l.forms
