use Rattle.std.proofs.Common.{◌≡◌, subst, Bool, ◌∙◌, ap₂}
use Rattle.hys_number.specs.Ops.{whole}
use Rattle.hys_lin.specs.Sums.{at, value}
use Rattle.hys_prog.specs.declared.stop.Stop.TheVariants.{Must}
use Rattle.hys_prog.specs.Stops.{Judged, form_fits, one, at_most}
use Rattle.hys_prog.proofs.Stopping.{fault_before, judged_after}
use Rattle.hys_prog.proofs.settle.most.Goals as goal

pub returns-in-Ok-clause-judged : goal.returns-in-Ok-clause-judged
returns-in-Ok-clause-judged c =
    let e : c.le.result ≡ at_most (value c.args.form.now (at c.args.values.now)) (whole 0) = c.le.ensures ∙ ap₂ at_most c.in-Ok.ensures.value c.whole.ensures in
    judged_after _ (form_fits (at c.args.values.now) c.args.item c.args.form.now) (one (at_most (value c.args.form.now (at c.args.values.now)) (whole 0)) (Must c.args.item)) c.demanded.result c.in-Ok.ensures.judged
    (subst (λ (b : Bool). Judged (one b (Must c.args.item)) c.demanded.result) e c.demanded.ensures.judged)

pub returns-in-Err-clause-judged : goal.returns-in-Err-clause-judged
returns-in-Err-clause-judged c = fault_before (form_fits (at c.args.values.now) c.args.item c.args.form.now) (one (at_most (value c.args.form.now (at c.args.values.now)) (whole 0)) (Must c.args.item)) c.in-Err.fault c.in-Err.ensures.judged
