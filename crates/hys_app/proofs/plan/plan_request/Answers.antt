use Rattle.hys_app.proofs.Planning.{plan_ended, plan_next, plan_followed}
use Rattle.hys_app.proofs.plan.plan_request.Goals as goal

pub returns-in-End : goal.returns-in-End
returns-in-End c = plan_ended c.args.compiled.now c.args.request.now c.args.name.now c.args.target.now c.in_ok-outcome.field-0 c.in-End.outcome c.in-End.is c.in_ok-outcome.ensures

pub put_plan-requires-clause-problem : goal.put_plan-requires-clause-problem
put_plan-requires-clause-problem c = (plan_next c.args.compiled.now.system c.args.request.now c.args.name.now c.in_ok-outcome.field-0 c.in-Next.problem c.in-Next.is c.in_ok-outcome.ensures).1

pub put_plan-requires-clause-plain : goal.put_plan-requires-clause-plain
put_plan-requires-clause-plain c = (plan_next c.args.compiled.now.system c.args.request.now c.args.name.now c.in_ok-outcome.field-0 c.in-Next.problem c.in-Next.is c.in_ok-outcome.ensures).2

pub returns-in-Next : goal.returns-in-Next
returns-in-Next c =
    plan_followed c.args.compiled.now c.args.request.now c.args.name.now c.args.target.now c.in-Next.problem c.put_plan.result c.requires.request
    (plan_next c.args.compiled.now.system c.args.request.now c.args.name.now c.in_ok-outcome.field-0 c.in-Next.problem c.in-Next.is c.in_ok-outcome.ensures).0 c.put_plan.ensures
