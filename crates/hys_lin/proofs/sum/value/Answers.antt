use Rattle.std.proofs.Common.{◌<◌, List, length, ℕ, ◌∙◌, ap, sym, subst}
use Rattle.std.proofs.lemmas.Result.{IfOk-weaker}
use Rattle.hys_number.specs.Ops.{◌+ₙ◌}
use Rattle.hys_number.proofs.Field.{add_comm}
use Rattle.hys_lin.specs.Sums.{sum_of, value, EachColumn, at}
use Rattle.hys_lin.specs.declared.form.Term.{Term}
use Rattle.hys_lin.proofs.sum.value.Goals as goal

pub sum_from-requires : goal.sum_from-requires
sum_from-requires c = subst (EachColumn (λ (i : ℕ). i < length c.args.point.now.values)) (sym c.items.ensures) c.requires

pub returns-clause-value : goal.returns-clause-value
unfolding value
returns-clause-value c = IfOk-weaker c.sum_from.result _ _ (λ r e. e ∙ ap (λ (ts : List Term). c.args.form.now.constant +ₙ sum_of ts (at c.args.point.now.values)) c.items.ensures ∙ add_comm _ _) c.sum_from.ensures.value
