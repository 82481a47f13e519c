use Rattle.hys_app.proofs.Demonstrating.{demo_planned}
use Rattle.hys_app.proofs.demo.plan_tanks.Goals as goal

pub returns : goal.returns
returns c =
    demo_planned c.args.tanks c.args.system.now c.args.request.now c.in_ok-problem.problem c.in_ok-answer.answer c.report_demo.result
    c.in_ok-problem.ensures.stacked c.in_ok-answer.ensures c.report_demo.ensures
