use Rattle.std.proofs.Common.{rules, ◌++◌, [], ◌∷◌, List, ◌∙◌, ap, ap₂, sym, subst, subst₂, Err}
use Rattle.hys_number.specs.Ops.{◌*ₙ◌}
use Rattle.hys_lin.specs.Sums.{AreTerms}
use Rattle.hys_lin.specs.Operations.{first_lost, times}
use Rattle.hys_lin.specs.Scaled.{AnswersLost, adding, merged}
use Rattle.hys_lin.specs.declared.form.Term.{Term}
use Rattle.hys_lin.proofs.Summing.{lost_after}
use Rattle.hys_lin.proofs.Multiples.{answers_before, answers_shown}
use Rattle.hys_lin.proofs.Merging.{merged_value, are-merged}
use Rattle.hys_lin.specs.Operations.{plus}
use Rattle.hys_lin.proofs.multiple.add_scaled.Goals as goal

Nothing : Type 0
Nothing = Unit {0}

pub returns-in_err-merge-clause-lost : goal.returns-in_err-merge-clause-lost
returns-in_err-merge-clause-lost c = λ p q. answers_before Nothing c.from_residual.result c.in_err-merge.field-0.0 _ (times c.args.by c.args.other.now.constant ∷ plus c.args.form.now.constant (c.args.by *ₙ c.args.other.now.constant) ∷ []) (search rules)
    (subst₂ (λ (xs ys : List Term). AnswersLost {T = Nothing} (Err c.in_err-merge.field-0.0) (adding xs c.args.by ys)) c.items.ensures c.items-2.ensures (c.in_err-merge.ensures.lost (subst AreTerms (sym c.items.ensures) p) (subst AreTerms (sym c.items-2.ensures) q)))

pub returns-in_err-constant-clause-lost : goal.returns-in_err-constant-clause-lost
returns-in_err-constant-clause-lost c = λ p q. answers_shown c.from_residual-in_err-constant.result c.in_err-constant.field-0.0 _ (times c.args.by c.args.other.now.constant ∷ plus c.args.form.now.constant (c.args.by *ₙ c.args.other.now.constant) ∷ []) (search rules)
    (ap₂ (λ (xs ys : List Term). first_lost (adding xs c.args.by ys)) (sym c.items.ensures) (sym c.items-2.ensures) ∙ c.in_ok-merge.ensures.lost (subst AreTerms (sym c.items.ensures) p) (subst AreTerms (sym c.items-2.ensures) q)) c.in_err-constant.ensures.lost

pub returns-clause-value : goal.returns-clause-value
returns-clause-value c = λ v. merged_value c.args.by c.args.form.now c.args.other.now _ v
    (c.of.ensures ∙ c.in_ok-merge.ensures.items ∙ ap (λ (zs : List Term). zs ++ merged c.items.result.now c.args.by c.items-2.result.now) c.new-terms.ensures.items ∙ ap₂ (λ (xs ys : List Term). merged xs c.args.by ys) c.items.ensures c.items-2.ensures)
    c.in_ok-constant.ensures.value

pub returns-clause-terms : goal.returns-clause-terms
returns-clause-terms c = λ p q. subst AreTerms (sym (c.of.ensures ∙ c.in_ok-merge.ensures.items ∙ ap (λ (zs : List Term). zs ++ merged c.items.result.now c.args.by c.items-2.result.now) c.new-terms.ensures.items ∙ ap₂ (λ (xs ys : List Term). merged xs c.args.by ys) c.items.ensures c.items-2.ensures))
    (are-merged c.args.form.now.terms c.args.by c.args.other.now.terms p q)

pub returns-clause-lost : goal.returns-clause-lost
returns-clause-lost c = λ p q. lost_after _ (times c.args.by c.args.other.now.constant ∷ plus c.args.form.now.constant (c.args.by *ₙ c.args.other.now.constant) ∷ [])
    (ap₂ (λ (xs ys : List Term). first_lost (adding xs c.args.by ys)) (sym c.items.ensures) (sym c.items-2.ensures) ∙ c.in_ok-merge.ensures.lost (subst AreTerms (sym c.items.ensures) p) (subst AreTerms (sym c.items-2.ensures) q)) ∙ sym c.in_ok-constant.ensures.lost
