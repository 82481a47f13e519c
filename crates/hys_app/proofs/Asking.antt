-- From the form that words have to the outcomes of the command that they ask for.
use Rattle.std.proofs.Common.{◌≡◌, ℕ, List, Option, None, Some, refl, sym, subst, ◌∙◌, ap, Result, Ok, Err, IfOk}
use Rattle.std.specs.declared.alloc.AllocError.{AllocError}
use Rattle.hys_io.specs.Outside.{Named}
use Rattle.hys_app.specs.Words.{Command, migrate, compile_form, sim_form, plan_form, check_form, demo_form, migrate_form, or_form, from_demo, from_check, from_plan, from_sim, form_of}
use Rattle.hys_app.specs.Ends.{IsReached}
use Rattle.hys_app.specs.Commands.{IsOutcomeOf, IsUsage}
use Rattle.hys_app.specs.Migrating.{IsMigrateOutcome}
use Rattle.hys_app.specs.declared.outcome.Outcome.{Outcome}
use Rattle.hys_app.specs.declared.status.Status.TheVariants.{Usage}
use Rattle.hys_app.proofs.Stages.{calm_by, calm_reached}

-- what is asked for is answered
abbrev pub AnswersTo : Option Named → Option Command → Result Outcome AllocError → ℕ → ℕ → Type 0
AnswersTo held asked x r r' = IfOk x (λ o. IsReached (IsOutcomeOf held asked) o r r')

-- the form is one of two, the first where there is one
abbrev pub IsFirst : Option Command → Option Command → Option Command → Type 0
IsFirst form first rest = form ≡ or_form first rest

pub forms : (words : List (List ℕ)) → IsFirst (form_of words) (compile_form words) (from_sim words)
unfolding form_of
forms words = refl

pub forms_from_sim : (words : List (List ℕ)) → IsFirst (from_sim words) (sim_form words) (from_plan words)
unfolding from_sim
forms_from_sim words = refl

pub forms_from_plan : (words : List (List ℕ)) → IsFirst (from_plan words) (plan_form words) (from_check words)
unfolding from_plan
forms_from_plan words = refl

pub forms_from_check : (words : List (List ℕ)) → IsFirst (from_check words) (check_form words) (from_demo words)
unfolding from_check
forms_from_check words = refl

pub forms_from_demo : (words : List (List ℕ)) → IsFirst (from_demo words) (demo_form words) (migrate_form words)
unfolding from_demo
forms_from_demo words = refl

-- ---- the first form
is_asked : (form first rest : Option Command) (c : Command) → IsFirst form first rest → first ≡ Some c → form ≡ Some c
is_asked form first rest c f e = f ∙ ap (λ (a : Option Command). or_form a rest) e

is_passed : (form first rest : Option Command) → IsFirst form first rest → first ≡ None → form ≡ rest
is_passed form first rest f e = f ∙ ap (λ (a : Option Command). or_form a rest) e

pub asked : (held : Option Named) (form first rest : Option Command) (c : Command) (x : Result Outcome AllocError) (r r' : ℕ) →
    IsFirst form first rest → first ≡ Some c → AnswersTo held (Some c) x r r' → AnswersTo held form x r r'
asked held form first rest c x r r' f e h =
    subst (λ (a : Option Command). AnswersTo held a x r r') (sym (is_asked form first rest c f e)) h

pub passed : (held : Option Named) (form first rest : Option Command) (x : Result Outcome AllocError) (r r' : ℕ) →
    IsFirst form first rest → first ≡ None → AnswersTo held rest x r r' → AnswersTo held form x r r'
passed held form first rest x r r' f e h =
    subst (λ (a : Option Command). AnswersTo held a x r r') (sym (is_passed form first rest f e)) h

some_none : (c : Command) → Some c ≡ None → ⊥
some_none c e = absurd (cc)

-- where there is a form nothing is said of no form
pub never : (form first rest : Option Command) (c : Command) → IsFirst form first rest → first ≡ Some c → form ≡ None → ⊥
never form first rest c f e n = some_none c (sym (is_asked form first rest c f e) ∙ n)

pub none_too : (form first rest : Option Command) → IsFirst form first rest → first ≡ None → form ≡ None → rest ≡ None
none_too form first rest f e n = sym (is_passed form first rest f e) ∙ n

-- ---- the last form
pub migrate_asked : (held : Option Named) (form : Option Command) (old new : List ℕ) (x : Result Outcome AllocError) (r r' : ℕ) →
    form ≡ Some (migrate old new) → IfOk x (λ o. IsReached (IsMigrateOutcome held old new) o r r') → AnswersTo held form x r r'
migrate_asked held form old new x r r' e h = subst (λ (a : Option Command). AnswersTo held a x r r') (sym e) h

usage_one : (held : Option Named) (x : Result Outcome AllocError) (r r' : ℕ) → IfOk x IsUsage → r' ≡ r → AnswersTo held None x r r'
usage_one held (Ok o) r r' e c = calm_reached IsUsage o r r' (calm_by o.status Usage (ap (λ (p : Outcome). p.status) e) refl) e c
usage_one held (Err a) r r' e c = tt

pub none_asked : (held : Option Named) (form : Option Command) (x : Result Outcome AllocError) (r r' : ℕ) → form ≡ None →
    IfOk x IsUsage → r' ≡ r → AnswersTo held form x r r'
none_asked held form x r r' e h c = subst (λ (a : Option Command). AnswersTo held a x r r') (sym e) (usage_one held x r r' h c)

pub migrate_never : (form : Option Command) (c : Command) → form ≡ Some c → form ≡ None → ⊥
migrate_never form c e n = some_none c (sym e ∙ n)
