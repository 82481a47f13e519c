use Rattle.std.proofs.Common.{subst}
use Rattle.hys_number.specs.Number.{Number}
use Rattle.hys_lin.specs.Sums.{at, value}
use Rattle.hys_prog.specs.Stops.{Judged, form_fits, no_gap}
use Rattle.hys_prog.proofs.Stopping.{fault_before, judged_after}
use Rattle.hys_prog.proofs.settle.guard.Goals as goal

pub returns-in-Ok-clause-judged : goal.returns-in-Ok-clause-judged
returns-in-Ok-clause-judged c = judged_after _ (form_fits (at c.args.values.now) c.args.item c.args.form.now) (no_gap c.args.item c.args.eps (value c.args.form.now (at c.args.values.now))) c.sided.result c.in-Ok.ensures.judged (subst (λ (z : Number). Judged (no_gap c.args.item c.args.eps z) c.sided.result) c.in-Ok.ensures.value c.sided.ensures.judged)

pub returns-in-Err-clause-judged : goal.returns-in-Err-clause-judged
returns-in-Err-clause-judged c = fault_before (form_fits (at c.args.values.now) c.args.item c.args.form.now) (no_gap c.args.item c.args.eps (value c.args.form.now (at c.args.values.now))) c.in-Err.fault c.in-Err.ensures.judged
