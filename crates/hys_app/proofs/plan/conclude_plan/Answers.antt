use Rattle.std.proofs.Common.{subst, sym, IfOk, Option}
use Rattle.hys_io.specs.Outside.{Named}
use Rattle.hys_compile.specs.declared.compiler.Compiled.{Compiled}
use Rattle.hys_app.specs.declared.outcome.Outcome.{Outcome}
use Rattle.hys_app.specs.Ends.{IsReached}
use Rattle.hys_app.specs.Compiling.{IsSourceEnd, CompiledFrom}
use Rattle.hys_app.specs.Planning.{IsRequestOutcome}
use Rattle.hys_app.proofs.Stages.{stage_next, ended_by, gone_on}
use Rattle.hys_app.proofs.plan.conclude_plan.Goals as goal

pub returns-in-End-clause-reached : goal.returns-in-End-clause-reached
returns-in-End-clause-reached g c =
    let held = g.F.Files.held c.args.files.now in
    let r = g.F.Files.read_faults c.args.files.now in
    let r' = g.F.Files.read_faults c.read_source.new.files in
    ended_by (IsSourceEnd c.args.tolerance held c.args.source.now) (CompiledFrom c.args.tolerance held c.args.source.now) (λ x. IsRequestOutcome x held c.args.request.now c.args.target.now)
    c.in_ok-outcome.field-0 c.in-End.outcome r r' c.in-End.is c.in_ok-outcome.ensures.stage

pub conclude_request-requires : goal.conclude_request-requires
conclude_request-requires g c =
    let held = g.F.Files.held c.args.files.now in
    let r = g.F.Files.read_faults c.args.files.now in
    let r' = g.F.Files.read_faults c.read_source.new.files in
    (stage_next (IsSourceEnd c.args.tolerance held c.args.source.now) (CompiledFrom c.args.tolerance held c.args.source.now) r r' c.in_ok-outcome.field-0 c.in-Next.compiled c.in-Next.is c.in_ok-outcome.ensures.stage).0.compiled.lawful

pub returns-in-Next-clause-reached : goal.returns-in-Next-clause-reached
returns-in-Next-clause-reached g c =
    let held = g.F.Files.held c.args.files.now in
    let r = g.F.Files.read_faults c.args.files.now in
    let m = g.F.Files.read_faults c.read_source.new.files in
    let r' = g.F.Files.read_faults c.conclude_request.new.files in
    let outcome : Option Named → Compiled → Outcome → Type 0 = λ at x. IsRequestOutcome x at c.args.request.now c.args.target.now in
    gone_on (IsSourceEnd c.args.tolerance held c.args.source.now) (CompiledFrom c.args.tolerance held c.args.source.now) (outcome held) c.in_ok-outcome.field-0 c.in-Next.compiled c.conclude_request.result r m r' c.in-Next.is c.in_ok-outcome.ensures.stage
    (subst (λ at. IfOk c.conclude_request.result (λ o. IsReached (outcome at c.in-Next.compiled) o m r')) c.read_source.ensures.held c.conclude_request.ensures.reached)
