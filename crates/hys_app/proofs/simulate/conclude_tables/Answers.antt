use Rattle.std.proofs.Common.{subst, sym, IfOk, List, ℕ, Option}
use Rattle.hys_io.specs.Outside.{Named}
use Rattle.hys_app.specs.declared.outcome.Outcome.{Outcome}
use Rattle.hys_app.specs.Ends.{IsReached}
use Rattle.hys_app.specs.Simulating.{IsTableEnd, IsTable, IsInputsOutcome}
use Rattle.hys_app.proofs.Stages.{ended_by, gone_on}
use Rattle.hys_app.proofs.simulate.conclude_tables.Goals as goal

pub returns-in-End-clause-reached : goal.returns-in-End-clause-reached
returns-in-End-clause-reached g c =
    let held = g.F.Files.held c.args.files.now in
    let r = g.F.Files.read_faults c.args.files.now in
    let r' = g.F.Files.read_faults c.read_table.new.files in
    let name = c.args.start.now in
    ended_by (IsTableEnd held name) (IsTable held name) (λ first. IsInputsOutcome held c.args.compiled.now name c.args.inputs.now c.args.target.now first)
    c.in_ok-outcome.field-0 c.in-End.outcome r r' c.in-End.is c.in_ok-outcome.ensures.stage

pub returns-in-Next-clause-reached : goal.returns-in-Next-clause-reached
returns-in-Next-clause-reached g c =
    let held = g.F.Files.held c.args.files.now in
    let r = g.F.Files.read_faults c.args.files.now in
    let m = g.F.Files.read_faults c.read_table.new.files in
    let r' = g.F.Files.read_faults c.conclude_inputs.new.files in
    let name = c.args.start.now in
    let outcome : Option Named → List ℕ → Outcome → Type 0 = λ at first. IsInputsOutcome at c.args.compiled.now name c.args.inputs.now c.args.target.now first in
    gone_on (IsTableEnd held name) (IsTable held name) (outcome held) c.in_ok-outcome.field-0 c.in-Next.first c.conclude_inputs.result r m r' c.in-Next.is c.in_ok-outcome.ensures.stage
    (subst (λ at. IfOk c.conclude_inputs.result (λ o. IsReached (outcome at c.in-Next.first) o m r')) c.read_table.ensures.held
    (subst (λ first. IfOk c.conclude_inputs.result (λ o. IsReached (outcome (g.F.Files.held c.read_table.new.files) first) o m r')) c.items.ensures c.conclude_inputs.ensures.reached))
