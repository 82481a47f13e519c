use Rattle.std.proofs.Common.{◌∙◌, Ok, Err}
use Rattle.hys_lin.specs.declared.form.Interval.{Interval}
use Rattle.hys_lin.proofs.Summing.{lost_after}
use Rattle.hys_bound.specs.Ranges.{range}
use Rattle.hys_guard.specs.Numbers.{guard_numbers}
use Rattle.hys_rows.specs.Moved.{moved}
use Rattle.hys_rows.proofs.Adding.{judged_same, judged_front, judged_behind, guard_judged}
use Rattle.hys_rows.proofs.guard.add_guard.Goals as goal

pub returns-in_err-range-clause-judged : goal.returns-in_err-range-clause-judged
returns-in_err-range-clause-judged c = judged_front Interval _ _ _ _ c.in_err-range.field-0.0 c.from_residual.ensures.1 c.in_err-range.ensures.judged

pub returns-in_err-add_guarded-clause-judged : goal.returns-in_err-add_guarded-clause-judged
returns-in_err-add_guarded-clause-judged c = judged_behind _ _ _ _ c.in_ok-range.ensures.judged
    (judged_same (Unit {0}) _ (guard_numbers (moved c.args.columns.now c.args.number.now) (range c.args.boxes.now c.args.number.now) c.args.eps) _ c.in_err-add_guarded.field-0.0 c.from_residual-in_err-add_guarded.ensures.1
    (guard_judged (Unit {0}) c.args.boxes.now c.args.columns.now c.args.number.now c.args.eps c.in_ok-range.range (Err c.in_err-add_guarded.field-0.0) c.in_ok-range.ensures.value c.in_err-add_guarded.ensures.judged))

pub returns-clause-judged : goal.returns-clause-judged
returns-clause-judged c = lost_after _ _ c.in_ok-range.ensures.judged ∙ guard_judged (Unit {0}) c.args.boxes.now c.args.columns.now c.args.number.now c.args.eps c.in_ok-range.range (Ok tt) c.in_ok-range.ensures.value c.in_ok-add_guarded.ensures.judged
