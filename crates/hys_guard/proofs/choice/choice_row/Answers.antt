use Rattle.std.proofs.Common.{◌<◌, ◌∙◌, ap₂}
use Rattle.hys_number.specs.Ops.{◌-ₙ◌}
use Rattle.hys_guard.specs.Numbers.{own_term as own_term_of}
use Rattle.hys_guard.proofs.Lists.{bound_row, joined_each, set_each}
use Rattle.hys_guard.proofs.choice.choice_row.Goals as goal

pub returns-clause-stated : goal.returns-clause-stated
returns-clause-stated c = bound_row c.args.side c.args.factor c.args.literal.now.constant (own_term_of c.args.literal.now.terms) c.args.form.now c.args.column c.in_ok-terms.terms.items c.in_ok-row_with.field-0
    c.requires.terms c.requires.apart c.requires.own_apart (rw (c.own_term.ensures) at c.in_ok-terms.ensures.joined) (rw (c.unit.ensures) at c.in_ok-row_with.ensures.0)
    (c.in_ok-row_with.ensures.1 ∙ c.in_ok-bound.ensures.value ∙ ap₂ ◌-ₙ◌ c.constant.ensures c.in_ok-moved.ensures.value) c.in_ok-row_with.ensures.2

pub returns-clause-below : goal.returns-clause-below
returns-clause-below c = λ n l o h. set_each (λ d. d < n) c.args.column _ _ c.in_ok-terms.terms.items c.in_ok-row_with.field-0.terms c.in_ok-row_with.ensures.0 l
    (joined_each (λ d. d < n) c.args.side c.args.factor (own_term_of c.args.literal.now.terms) c.args.form.now.terms c.in_ok-terms.terms.items (rw (c.own_term.ensures) at c.in_ok-terms.ensures.joined) o h)
