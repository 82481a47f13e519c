use Rattle.std.proofs.Common.{◌≤◌, arith}
use Rattle.hys_rows.proofs.Trying.{form_boxed, form_apart}
use Rattle.hys_rows.proofs.tests.form_body.Goals as goal

pub returns-in-guard-clause-placed : goal.returns-in-guard-clause-placed
returns-in-guard-clause-placed c =
    let l : 5 ≤ 9 = omega arith in
    (c.tolerance.ensures, c.in_ok-form.ensures.placed, form_boxed c.args.boxes.now c.in_ok-form.form c.requires c.in_ok-form.ensures.names, form_apart 9 c.in_ok-form.form l c.in_ok-form.ensures.columns)

pub returns-in-linear-clause-placed : goal.returns-in-linear-clause-placed
returns-in-linear-clause-placed c = let l : 5 ≤ 9 = omega arith in (c.in_ok-form.ensures.placed, form_apart 9 c.in_ok-form.form l c.in_ok-form.ensures.columns)
