use Rattle.std.proofs.Common.{subst, sym, IfOk}
use Rattle.hys_stack.specs.declared.request.Request.{Request}
use Rattle.hys_app.specs.declared.outcome.Outcome.{Outcome}
use Rattle.hys_app.specs.Planning.{IsRequestEnd, RequestFrom, IsPlanned}
use Rattle.hys_app.proofs.Stages.{stage_next, ended_by, gone_on, calm_ok}
use Rattle.hys_app.proofs.Planning.{plan_calm}
use Rattle.hys_app.proofs.plan.conclude_request.Goals as goal

pub returns-in-End-clause-reached : goal.returns-in-End-clause-reached
returns-in-End-clause-reached g c =
    let held = g.F.Files.held c.args.files.now in
    let r = g.F.Files.read_faults c.args.files.now in
    let r' = g.F.Files.read_faults c.read_plan.new.files in
    let s = c.args.compiled.now.system in
    let name = c.args.request.now in
    ended_by (IsRequestEnd s held name) (RequestFrom s held name) (λ q. IsPlanned c.args.compiled.now q name c.args.target.now)
    c.in_ok-outcome.field-0 c.in-End.outcome r r' c.in-End.is c.in_ok-outcome.ensures.stage

pub plan_request-requires-clause-request : goal.plan_request-requires-clause-request
plan_request-requires-clause-request g c =
    let held = g.F.Files.held c.args.files.now in
    let r = g.F.Files.read_faults c.args.files.now in
    let r' = g.F.Files.read_faults c.read_plan.new.files in
    let s = c.args.compiled.now.system in
    let name = c.args.request.now in
    (stage_next (IsRequestEnd s held name) (RequestFrom s held name) r r' c.in_ok-outcome.field-0 c.in-Next.asked c.in-Next.is c.in_ok-outcome.ensures.stage).0.stands.lawful

pub returns-in-Next-clause-reached : goal.returns-in-Next-clause-reached
returns-in-Next-clause-reached g c =
    let held = g.F.Files.held c.args.files.now in
    let r = g.F.Files.read_faults c.args.files.now in
    let r' = g.F.Files.read_faults c.read_plan.new.files in
    let s = c.args.compiled.now.system in
    let name = c.args.request.now in
    let outcome : Request → Outcome → Type 0 = λ q. IsPlanned c.args.compiled.now q name c.args.target.now in
    gone_on (IsRequestEnd s held name) (RequestFrom s held name) outcome c.in_ok-outcome.field-0 c.in-Next.asked c.plan_request.result r r' r' c.in-Next.is c.in_ok-outcome.ensures.stage
    (calm_ok (outcome c.in-Next.asked) c.plan_request.result r' (plan_calm c.args.compiled.now c.in-Next.asked name c.args.target.now) c.plan_request.ensures)
