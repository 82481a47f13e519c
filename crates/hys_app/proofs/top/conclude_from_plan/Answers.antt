use Rattle.std.proofs.Common.{rules, sym, map, string_bytes}
use Rattle.hys_app.specs.Words.{plan, plan_form, from_check, from_plan}
use Rattle.hys_app.proofs.Asking.{forms_from_plan, asked, passed, never, none_too}
use Rattle.hys_app.proofs.top.conclude_from_plan.Goals as goal

pub returns-in-Some-clause-reached : goal.returns-in-Some-clause-reached
returns-in-Some-clause-reached g c =
    let words = map string_bytes c.args.words.now in
    asked (g.F.Files.held c.args.files.now) (from_plan words) (plan_form words) (from_check words) (plan c.in-Some.source.now c.in-Some.request.now c.in-Some.target.now _) c.conclude_plan.result
    (g.F.Files.read_faults c.args.files.now) (g.F.Files.read_faults c.conclude_plan.new.files) (forms_from_plan words) (search rules) c.conclude_plan.ensures.reached

pub returns-in-Some-clause-unread : goal.returns-in-Some-clause-unread
returns-in-Some-clause-unread g c = λ n.
    let words = map string_bytes c.args.words.now in
    absurd (never (from_plan words) (plan_form words) (from_check words) (plan c.in-Some.source.now c.in-Some.request.now c.in-Some.target.now c.in-Some.tolerance) (forms_from_plan words) (sym c.in-Some.ensures.form) n)

pub returns-in-None-clause-reached : goal.returns-in-None-clause-reached
returns-in-None-clause-reached g c =
    let words = map string_bytes c.args.words.now in
    passed (g.F.Files.held c.args.files.now) (from_plan words) (plan_form words) (from_check words) c.conclude_from_check.result
    (g.F.Files.read_faults c.args.files.now) (g.F.Files.read_faults c.conclude_from_check.new.files) (forms_from_plan words) (sym c.in-None.ensures.form) c.conclude_from_check.ensures.reached

pub returns-in-None-clause-unread : goal.returns-in-None-clause-unread
returns-in-None-clause-unread g c = λ n.
    let words = map string_bytes c.args.words.now in
    c.conclude_from_check.ensures.unread (none_too (from_plan words) (plan_form words) (from_check words) (forms_from_plan words) (sym c.in-None.ensures.form) n)
