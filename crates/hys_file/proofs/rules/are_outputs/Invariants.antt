use Rattle.std.proofs.Common.{drop}
use Rattle.std.specs.List.{AllByRecursion}
use Rattle.hys_lin.specs.Over.{AreTermsOver}
use Rattle.hys_sys.specs.declared.system.Output.{Output}
use Rattle.hys_file.proofs.rules.are_outputs.Given as goal

abbrev pub invariant-loop-output : goal.invariant-loop-output
invariant-loop-output l =
    AllByRecursion (λ (x : Output). AreTermsOver l.columns x.form.terms) (drop l.output-index l.outputs) → AllByRecursion (λ (x : Output). AreTermsOver l.columns x.form.terms) l.outputs
