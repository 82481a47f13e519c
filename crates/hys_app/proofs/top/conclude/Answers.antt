use Rattle.std.proofs.Common.{rules, sym, map, string_bytes}
use Rattle.hys_app.specs.Words.{compile, compile_form, from_sim, form_of}
use Rattle.hys_app.proofs.Asking.{forms, asked, passed, never, none_too}
use Rattle.hys_app.proofs.top.conclude.Goals as goal

pub returns-in-Some-clause-reached : goal.returns-in-Some-clause-reached
returns-in-Some-clause-reached g c =
    let words = map string_bytes c.args.words.now in
    asked (g.F.Files.held c.args.files.now) (form_of words) (compile_form words) (from_sim words) (compile c.in-Some.source.now c.in-Some.target.now _) c.conclude_compile.result
    (g.F.Files.read_faults c.args.files.now) (g.F.Files.read_faults c.conclude_compile.new.files) (forms words) (search rules) c.conclude_compile.ensures.reached

pub returns-in-Some-clause-unread : goal.returns-in-Some-clause-unread
returns-in-Some-clause-unread g c = λ n.
    let words = map string_bytes c.args.words.now in
    absurd (never (form_of words) (compile_form words) (from_sim words) (compile c.in-Some.source.now c.in-Some.target.now c.in-Some.tolerance) (forms words) (sym c.in-Some.ensures.form) n)

pub returns-in-None-clause-reached : goal.returns-in-None-clause-reached
returns-in-None-clause-reached g c =
    let words = map string_bytes c.args.words.now in
    passed (g.F.Files.held c.args.files.now) (form_of words) (compile_form words) (from_sim words) c.conclude_from_sim.result
    (g.F.Files.read_faults c.args.files.now) (g.F.Files.read_faults c.conclude_from_sim.new.files) (forms words) (sym c.in-None.ensures.form) c.conclude_from_sim.ensures.reached

pub returns-in-None-clause-unread : goal.returns-in-None-clause-unread
returns-in-None-clause-unread g c = λ n.
    let words = map string_bytes c.args.words.now in
    c.conclude_from_sim.ensures.unread (none_too (form_of words) (compile_form words) (from_sim words) (forms words) (sym c.in-None.ensures.form) n)
