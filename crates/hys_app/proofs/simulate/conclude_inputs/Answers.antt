use Rattle.std.proofs.Common.{subst, sym, IfOk, List, ℕ}
use Rattle.hys_app.specs.declared.outcome.Outcome.{Outcome}
use Rattle.hys_app.specs.Ends.{IsReached}
use Rattle.hys_app.specs.Simulating.{IsTableEnd, IsTable, IsRunOutcome}
use Rattle.hys_app.proofs.Stages.{ended_by, gone_on, calm_ok}
use Rattle.hys_app.proofs.Simulating.{outcome_calm}
use Rattle.hys_app.proofs.simulate.conclude_inputs.Goals as goal

pub returns-in-End-clause-reached : goal.returns-in-End-clause-reached
returns-in-End-clause-reached g c =
    let held = g.F.Files.held c.args.files.now in
    let r = g.F.Files.read_faults c.args.files.now in
    let r' = g.F.Files.read_faults c.read_table.new.files in
    let name = c.args.inputs.now in
    ended_by (IsTableEnd held name) (IsTable held name) (λ others. IsRunOutcome c.args.compiled.now c.args.start.now name c.args.target.now c.args.first.now others)
    c.in_ok-outcome.field-0 c.in-End.outcome r r' c.in-End.is c.in_ok-outcome.ensures.stage

pub returns-in-Next-clause-reached : goal.returns-in-Next-clause-reached
returns-in-Next-clause-reached g c =
    let held = g.F.Files.held c.args.files.now in
    let r = g.F.Files.read_faults c.args.files.now in
    let r' = g.F.Files.read_faults c.read_table.new.files in
    let name = c.args.inputs.now in
    let outcome : List ℕ → Outcome → Type 0 = λ others. IsRunOutcome c.args.compiled.now c.args.start.now name c.args.target.now c.args.first.now others in
    gone_on (IsTableEnd held name) (IsTable held name) outcome c.in_ok-outcome.field-0 c.in-Next.others c.run_tables.result r r' r' c.in-Next.is c.in_ok-outcome.ensures.stage
    (calm_ok (outcome c.in-Next.others) c.run_tables.result r' (outcome_calm c.args.compiled.now c.args.start.now name c.args.target.now c.args.first.now c.in-Next.others)
    (subst (λ others. IfOk c.run_tables.result (outcome others)) c.items.ensures c.run_tables.ensures))
