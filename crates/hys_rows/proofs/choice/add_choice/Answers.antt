use Rattle.std.proofs.Common.{◌∙◌, Ok, Err}
use Rattle.hys_lin.specs.declared.form.Interval.{Interval}
use Rattle.hys_lin.proofs.Summing.{lost_after}
use Rattle.hys_rows.specs.Numbers.{chosen_numbers}
use Rattle.hys_rows.proofs.Adding.{judged_same, judged_front, judged_behind, chosen_judged, added_twice}
use Rattle.hys_rows.proofs.choice.add_choice.Goals as goal

pub returns-in_err-first-clause-judged : goal.returns-in_err-first-clause-judged
returns-in_err-first-clause-judged c = judged_front Interval _ _ _ _ c.in_err-first.field-0.0 c.from_residual.ensures.1 c.in_err-first.ensures.judged

pub returns-in_err-second-clause-judged : goal.returns-in_err-second-clause-judged
returns-in_err-second-clause-judged c = judged_behind _ _ _ _ c.in_ok-first.ensures.judged (judged_front Interval _ _ _ _ c.in_err-second.field-0.0 c.from_residual-in_err-second.ensures.1 c.in_err-second.ensures.judged)

pub returns-in_err-add_chosen-clause-judged : goal.returns-in_err-add_chosen-clause-judged
returns-in_err-add_chosen-clause-judged c = judged_behind _ _ _ _ c.in_ok-first.ensures.judged (judged_behind _ _ _ _ c.in_ok-second.ensures.judged
    (judged_same (Unit {0}) _ (chosen_numbers c.args.boxes.now c.args.columns.now c.args.first_free c.args.when.now c.args.hit.now c.args.other.now) _ c.in_err-add_chosen.field-0.0 c.from_residual-in_err-add_chosen.ensures.1
    (chosen_judged (Unit {0}) c.args.boxes.now c.args.columns.now c.args.first_free c.args.when.now c.args.hit.now c.args.other.now c.in_ok-read.read.form c.in_ok-first.first c.in_ok-second.second (Err c.in_err-add_chosen.field-0.0)
    c.in_ok-read.ensures.form c.in_ok-first.ensures.value c.in_ok-second.ensures.value c.in_err-add_chosen.ensures.judged)))

pub returns-clause-judged : goal.returns-clause-judged
returns-clause-judged c = lost_after _ _ c.in_ok-first.ensures.judged ∙ (lost_after _ _ c.in_ok-second.ensures.judged
    ∙ chosen_judged (Unit {0}) c.args.boxes.now c.args.columns.now c.args.first_free c.args.when.now c.args.hit.now c.args.other.now c.in_ok-read.read.form c.in_ok-first.first c.in_ok-second.second (Ok tt)
    c.in_ok-read.ensures.form c.in_ok-first.ensures.value c.in_ok-second.ensures.value c.in_ok-add_chosen.ensures.judged)

pub returns-clause-added : goal.returns-clause-added
returns-clause-added c = added_twice _ _ _ _ _ _ _ _ (λ n p. p.0) (λ n p. (p.1, p.2, p.3, p.4)) c.in_ok-read.ensures.added (rw (c.in_ok-first.ensures.value, c.in_ok-second.ensures.value, c.in_ok-read.ensures.form) at c.in_ok-add_chosen.ensures.added)
