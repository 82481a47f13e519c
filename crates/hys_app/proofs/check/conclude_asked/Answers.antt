use Rattle.std.proofs.Common.{subst, IfOk, Option}
use Rattle.hys_io.specs.Outside.{Named}
use Rattle.hys_stack.specs.declared.request.Request.{Request}
use Rattle.hys_app.specs.declared.outcome.Outcome.{Outcome}
use Rattle.hys_app.specs.Ends.{IsReached}
use Rattle.hys_app.specs.Planning.{IsRequestEnd, RequestFrom}
use Rattle.hys_app.specs.Checking.{IsStackedOutcome}
use Rattle.hys_app.proofs.Stages.{stage_next, ended_by, gone_on}
use Rattle.hys_app.proofs.check.conclude_asked.Goals as goal

pub returns-in-End-clause-reached : goal.returns-in-End-clause-reached
returns-in-End-clause-reached g c =
    let held = g.F.Files.held c.args.files.now in
    let r = g.F.Files.read_faults c.args.files.now in
    let r' = g.F.Files.read_faults c.read_plan.new.files in
    let s = c.args.system.now in
    let name = c.args.request.now in
    ended_by (IsRequestEnd s held name) (RequestFrom s held name) (λ q. IsStackedOutcome s q held name c.args.answer.now)
    c.in_ok-outcome.field-0 c.in-End.outcome r r' c.in-End.is c.in_ok-outcome.ensures.stage

pub conclude_stacked-requires-clause-request : goal.conclude_stacked-requires-clause-request
conclude_stacked-requires-clause-request g c =
    let held = g.F.Files.held c.args.files.now in
    let r = g.F.Files.read_faults c.args.files.now in
    let r' = g.F.Files.read_faults c.read_plan.new.files in
    let s = c.args.system.now in
    let name = c.args.request.now in
    (stage_next (IsRequestEnd s held name) (RequestFrom s held name) r r' c.in_ok-outcome.field-0 c.in-Next.asked c.in-Next.is c.in_ok-outcome.ensures.stage).0.stands.lawful

pub returns-in-Next-clause-reached : goal.returns-in-Next-clause-reached
returns-in-Next-clause-reached g c =
    let held = g.F.Files.held c.args.files.now in
    let r = g.F.Files.read_faults c.args.files.now in
    let m = g.F.Files.read_faults c.read_plan.new.files in
    let r' = g.F.Files.read_faults c.conclude_stacked.new.files in
    let s = c.args.system.now in
    let name = c.args.request.now in
    let outcome : Option Named → Request → Outcome → Type 0 = λ at q. IsStackedOutcome s q at name c.args.answer.now in
    gone_on (IsRequestEnd s held name) (RequestFrom s held name) (outcome held) c.in_ok-outcome.field-0 c.in-Next.asked c.conclude_stacked.result r m r' c.in-Next.is c.in_ok-outcome.ensures.stage
    (subst (λ at. IfOk c.conclude_stacked.result (λ o. IsReached (outcome at c.in-Next.asked) o m r')) c.read_plan.ensures.held c.conclude_stacked.ensures.reached)
