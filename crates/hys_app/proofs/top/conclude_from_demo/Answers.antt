use Rattle.std.proofs.Common.{sym, map, string_bytes}
use Rattle.hys_app.specs.Words.{demo, demo_form, migrate_form, from_demo}
use Rattle.hys_app.proofs.Asking.{forms_from_demo, asked, passed, never, none_too}
use Rattle.hys_app.proofs.Demonstrating.{demo_reached}
use Rattle.hys_app.proofs.top.conclude_from_demo.Goals as goal

pub returns-in-Some-clause-reached : goal.returns-in-Some-clause-reached
returns-in-Some-clause-reached g c =
    let words = map string_bytes c.args.words.now in
    asked (g.F.Files.held c.args.files.now) (from_demo words) (demo_form words) (migrate_form words) (demo c.in-Some.tanks) c.conclude_demo.result
    (g.F.Files.read_faults c.args.files.now) (g.F.Files.read_faults c.args.files.now) (forms_from_demo words) (sym c.in-Some.ensures.form)
    (demo_reached (g.F.Files.held c.args.files.now) c.in-Some.tanks c.conclude_demo.result (g.F.Files.read_faults c.args.files.now) c.conclude_demo.ensures)

pub returns-in-Some-clause-unread : goal.returns-in-Some-clause-unread
returns-in-Some-clause-unread g c = λ n.
    let words = map string_bytes c.args.words.now in
    absurd (never (from_demo words) (demo_form words) (migrate_form words) (demo c.in-Some.tanks) (forms_from_demo words) (sym c.in-Some.ensures.form) n)

pub returns-in-None-clause-reached : goal.returns-in-None-clause-reached
returns-in-None-clause-reached g c =
    let words = map string_bytes c.args.words.now in
    passed (g.F.Files.held c.args.files.now) (from_demo words) (demo_form words) (migrate_form words) c.conclude_from_migrate.result
    (g.F.Files.read_faults c.args.files.now) (g.F.Files.read_faults c.conclude_from_migrate.new.files) (forms_from_demo words) (sym c.in-None.ensures.form) c.conclude_from_migrate.ensures.reached

pub returns-in-None-clause-unread : goal.returns-in-None-clause-unread
returns-in-None-clause-unread g c = λ n.
    let words = map string_bytes c.args.words.now in
    c.conclude_from_migrate.ensures.unread (none_too (from_demo words) (demo_form words) (migrate_form words) (forms_from_demo words) (sym c.in-None.ensures.form) n)
