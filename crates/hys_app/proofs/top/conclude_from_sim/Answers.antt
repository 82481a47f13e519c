use Rattle.std.proofs.Common.{rules, sym, map, string_bytes}
use Rattle.hys_app.specs.Words.{sim, sim_form, from_plan, from_sim}
use Rattle.hys_app.proofs.Asking.{forms_from_sim, asked, passed, never, none_too}
use Rattle.hys_app.proofs.top.conclude_from_sim.Goals as goal

pub returns-in-Some-clause-reached : goal.returns-in-Some-clause-reached
returns-in-Some-clause-reached g c =
    let words = map string_bytes c.args.words.now in
    asked (g.F.Files.held c.args.files.now) (from_sim words) (sim_form words) (from_plan words) (sim c.in-Some.source.now c.in-Some.start.now c.in-Some.inputs.now c.in-Some.target.now _) c.conclude_sim.result
    (g.F.Files.read_faults c.args.files.now) (g.F.Files.read_faults c.conclude_sim.new.files) (forms_from_sim words) (search rules) c.conclude_sim.ensures.reached

pub returns-in-Some-clause-unread : goal.returns-in-Some-clause-unread
returns-in-Some-clause-unread g c = λ n.
    let words = map string_bytes c.args.words.now in
    absurd (never (from_sim words) (sim_form words) (from_plan words) (sim c.in-Some.source.now c.in-Some.start.now c.in-Some.inputs.now c.in-Some.target.now c.in-Some.tolerance) (forms_from_sim words) (sym c.in-Some.ensures.form) n)

pub returns-in-None-clause-reached : goal.returns-in-None-clause-reached
returns-in-None-clause-reached g c =
    let words = map string_bytes c.args.words.now in
    passed (g.F.Files.held c.args.files.now) (from_sim words) (sim_form words) (from_plan words) c.conclude_from_plan.result
    (g.F.Files.read_faults c.args.files.now) (g.F.Files.read_faults c.conclude_from_plan.new.files) (forms_from_sim words) (sym c.in-None.ensures.form) c.conclude_from_plan.ensures.reached

pub returns-in-None-clause-unread : goal.returns-in-None-clause-unread
returns-in-None-clause-unread g c = λ n.
    let words = map string_bytes c.args.words.now in
    c.conclude_from_plan.ensures.unread (none_too (from_sim words) (sim_form words) (from_plan words) (forms_from_sim words) (sym c.in-None.ensures.form) n)
