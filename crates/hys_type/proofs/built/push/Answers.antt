use Rattle.std.proofs.Common.{ℕ, [], ◌∷◌, ◌++◌, List, sym, ap, ◌∙◌, append-nil}
use Rattle.hys_lin.specs.declared.form.Term.{Term}
use Rattle.hys_lin.proofs.Multiples.{kept_none, kept_some}
use Rattle.hys_type.proofs.built.push.Goals as goal

pub returns-then-is_zero : goal.returns-then-is_zero
returns-then-is_zero c = sym (ap (λ (ts : List Term). c.args.out.now.items ++ ts) (kept_none c.args.at c.args.factor (c.is_zero.ensures.0 c.if-is_zero.true)) ∙ append-nil c.args.out.now.items)

pub returns : goal.returns
returns c =
    c.in_ok-push.ensures.items ∙ ap (λ (k : ℕ). c.args.out.now.items ++ record { column = k; factor = c.args.factor } ∷ []) c.in_ok-column_at.ensures
    ∙ ap (λ (ts : List Term). c.args.out.now.items ++ ts) (sym (kept_some c.args.at c.args.factor (λ e. absurd (cc (c.is_zero.ensures.1 e, c.if-is_zero.false)))))
