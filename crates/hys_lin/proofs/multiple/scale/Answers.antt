use Rattle.std.proofs.Common.{rules, ◌++◌, [], ◌∷◌, List, ◌∙◌, ap, ap₂, sym, subst, Err}
use Rattle.hys_lin.specs.Sums.{AreTerms}
use Rattle.hys_lin.specs.Operations.{first_lost, times}
use Rattle.hys_lin.specs.Scaled.{AnswersLost, scaling, scaled}
use Rattle.hys_lin.specs.declared.form.Term.{Term}
use Rattle.hys_lin.proofs.Summing.{lost_after}
use Rattle.hys_lin.proofs.Multiples.{answers_before, answers_shown, scaled_value, are-scaled}
use Rattle.hys_lin.proofs.multiple.scale.Goals as goal

Nothing : Type 0
Nothing = Unit {0}

pub returns-in_err-push_scaled-clause-lost : goal.returns-in_err-push_scaled-clause-lost
returns-in_err-push_scaled-clause-lost c = answers_before Nothing c.from_residual.result c.in_err-push_scaled.field-0.0 _ (times c.args.by c.args.form.now.constant ∷ []) (search rules)
    (subst (λ (ts : List Term). AnswersLost {T = Nothing} (Err c.in_err-push_scaled.field-0.0) (scaling c.args.by ts)) c.items.ensures c.in_err-push_scaled.ensures.lost)

pub returns-in_err-constant-clause-lost : goal.returns-in_err-constant-clause-lost
returns-in_err-constant-clause-lost c = answers_shown c.from_residual-in_err-constant.result c.in_err-constant.field-0.0 _ (times c.args.by c.args.form.now.constant ∷ []) (search rules)
    (ap (λ (ts : List Term). first_lost (scaling c.args.by ts)) (sym c.items.ensures) ∙ c.in_ok-push_scaled.ensures.lost) c.in_err-constant.ensures.lost

pub returns-clause-value : goal.returns-clause-value
returns-clause-value c = λ v. scaled_value c.args.by c.args.form.now _ v
    (c.of.ensures ∙ c.in_ok-push_scaled.ensures.items ∙ ap₂ (λ (xs ts : List Term). xs ++ scaled c.args.by ts) c.new-terms.ensures.items c.items.ensures)
    c.in_ok-constant.ensures.value

pub returns-clause-terms : goal.returns-clause-terms
returns-clause-terms c = λ h. subst AreTerms (sym (c.of.ensures ∙ c.in_ok-push_scaled.ensures.items ∙ ap₂ (λ (xs ts : List Term). xs ++ scaled c.args.by ts) c.new-terms.ensures.items c.items.ensures)) (are-scaled c.args.by c.args.form.now.terms h)

pub returns-clause-lost : goal.returns-clause-lost
returns-clause-lost c = lost_after _ (times c.args.by c.args.form.now.constant ∷ []) (ap (λ (ts : List Term). first_lost (scaling c.args.by ts)) (sym c.items.ensures) ∙ c.in_ok-push_scaled.ensures.lost) ∙ sym c.in_ok-constant.ensures.lost
