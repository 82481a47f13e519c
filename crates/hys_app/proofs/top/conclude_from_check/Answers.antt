use Rattle.std.proofs.Common.{sym, map, string_bytes}
use Rattle.hys_app.specs.Words.{check, check_form, from_demo, from_check}
use Rattle.hys_app.proofs.Asking.{forms_from_check, asked, passed, never, none_too}
use Rattle.hys_app.proofs.top.conclude_from_check.Goals as goal

pub returns-in-Some-clause-reached : goal.returns-in-Some-clause-reached
returns-in-Some-clause-reached g c =
    let words = map string_bytes c.args.words.now in
    asked (g.F.Files.held c.args.files.now) (from_check words) (check_form words) (from_demo words) (check c.in-Some.matrices.now c.in-Some.request.now c.in-Some.answer.now) c.conclude_check.result
    (g.F.Files.read_faults c.args.files.now) (g.F.Files.read_faults c.conclude_check.new.files) (forms_from_check words) (sym c.in-Some.ensures.form) c.conclude_check.ensures.reached

pub returns-in-Some-clause-unread : goal.returns-in-Some-clause-unread
returns-in-Some-clause-unread g c = λ n.
    let words = map string_bytes c.args.words.now in
    absurd (never (from_check words) (check_form words) (from_demo words) (check c.in-Some.matrices.now c.in-Some.request.now c.in-Some.answer.now) (forms_from_check words) (sym c.in-Some.ensures.form) n)

pub returns-in-None-clause-reached : goal.returns-in-None-clause-reached
returns-in-None-clause-reached g c =
    let words = map string_bytes c.args.words.now in
    passed (g.F.Files.held c.args.files.now) (from_check words) (check_form words) (from_demo words) c.conclude_from_demo.result
    (g.F.Files.read_faults c.args.files.now) (g.F.Files.read_faults c.conclude_from_demo.new.files) (forms_from_check words) (sym c.in-None.ensures.form) c.conclude_from_demo.ensures.reached

pub returns-in-None-clause-unread : goal.returns-in-None-clause-unread
returns-in-None-clause-unread g c = λ n.
    let words = map string_bytes c.args.words.now in
    c.conclude_from_demo.ensures.unread (none_too (from_check words) (check_form words) (from_demo words) (forms_from_check words) (sym c.in-None.ensures.form) n)
