use Rattle.std.proofs.Common.{rules, ◌≡◌, ◌∙◌, sym, Some, false}
use Rattle.std.specs.Result.{result_err}
use Rattle.hys_lin.specs.Operations.{summing}
use Rattle.hys_lin.specs.Ranges.{end_at}
use Rattle.hys_lin.proofs.Summing.{lost_after, lost_before}
use Rattle.hys_lin.proofs.Ranging.{range_holds}
use Rattle.hys_lin.proofs.range.range_of.Goals as goal

pub returns-in_err-low-clause-lost : goal.returns-in_err-low-clause-lost
returns-in_err-low-clause-lost c =
    let e : result_err c.from_residual.result ≡ Some c.in_err-low.field-0.0 = search rules in
    e ∙ sym (lost_before (summing c.args.form.now.constant c.args.form.now.terms (end_at false c.args.boxes.now)) _ _ (sym c.in_err-low.ensures.lost))

pub returns-in_err-high-clause-lost : goal.returns-in_err-high-clause-lost
returns-in_err-high-clause-lost c =
    let e : result_err c.from_residual-in_err-high.result ≡ Some c.in_err-high.field-0.0 = search rules in
    e ∙ c.in_err-high.ensures.lost ∙ sym (lost_after (summing c.args.form.now.constant c.args.form.now.terms (end_at false c.args.boxes.now)) _ (sym c.in_ok-low.ensures.lost))

pub returns-clause-holds : goal.returns-clause-holds
returns-clause-holds c = range_holds c.args.form.now c.args.boxes.now (record { low = c.in_ok-low.low; high = c.in_ok-high.high }) c.requires c.in_ok-low.ensures.value c.in_ok-high.ensures.value

pub returns-clause-lost : goal.returns-clause-lost
returns-clause-lost c = c.in_ok-high.ensures.lost ∙ sym (lost_after (summing c.args.form.now.constant c.args.form.now.terms (end_at false c.args.boxes.now)) _ (sym c.in_ok-low.ensures.lost))
