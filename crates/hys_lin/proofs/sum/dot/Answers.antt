use Rattle.std.proofs.Common.{◌∙◌, ap}
use Rattle.std.proofs.lemmas.Result.{IfOk-weaker}
use Rattle.hys_number.specs.Number.{Number}
use Rattle.hys_number.specs.Ops.{◌+ₙ◌}
use Rattle.hys_number.proofs.Cancel.{zero_add}
use Rattle.hys_lin.specs.Sums.{sum_of, at}
use Rattle.hys_lin.specs.Operations.{first_lost, summing}
use Rattle.hys_lin.specs.declared.form.Term.{Term}
use Rattle.hys_lin.proofs.sum.dot.Goals as goal

pub returns-clause-value : goal.returns-clause-value
returns-clause-value c = IfOk-weaker c.sum_from.result _ _ (λ r e. e ∙ ap (λ (z : Number). z +ₙ sum_of c.args.terms.now (at c.args.point.now.values)) c.whole.ensures ∙ zero_add _) c.sum_from.ensures.value

pub returns-clause-lost : goal.returns-clause-lost
returns-clause-lost c = c.sum_from.ensures.lost ∙ ap (λ (z : Number). first_lost (summing z c.args.terms.now (λ (t : Term). at c.args.point.now.values t.column))) c.whole.ensures
