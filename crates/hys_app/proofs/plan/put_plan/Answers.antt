use Rattle.hys_app.proofs.Planning.{answer_put}
use Rattle.hys_app.proofs.plan.put_plan.Goals as goal

pub returns : goal.returns
returns c =
    answer_put c.args.problem c.args.request.now c.args.target.now c.in_ok-answer.answer c.report_answer.result c.requires.few
    c.in_ok-answer.ensures c.report_answer.ensures.put c.report_answer.ensures.reads
