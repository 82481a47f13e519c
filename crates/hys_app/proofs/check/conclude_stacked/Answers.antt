use Rattle.std.proofs.Common.{refl}
use Rattle.hys_app.proofs.Planning.{plan_next}
use Rattle.hys_app.proofs.Checking.{stacked_ended, stacked_followed}
use Rattle.hys_app.proofs.check.conclude_stacked.Goals as goal

pub returns-in-End-clause-reached : goal.returns-in-End-clause-reached
returns-in-End-clause-reached g c =
    let r = g.F.Files.read_faults c.args.files.now in
    stacked_ended c.args.system.now c.args.asked.now (g.F.Files.held c.args.files.now) c.args.request.now c.args.answer.now c.in_ok-outcome.field-0 c.in-End.outcome r r
    c.in-End.is c.in_ok-outcome.ensures refl

pub conclude_answer-requires : goal.conclude_answer-requires
conclude_answer-requires g c =
    (plan_next c.args.system.now c.args.asked.now c.args.request.now c.in_ok-outcome.field-0 c.in-Next.problem c.in-Next.is c.in_ok-outcome.ensures).1

pub returns-in-Next-clause-reached : goal.returns-in-Next-clause-reached
returns-in-Next-clause-reached g c =
    stacked_followed c.args.system.now c.args.asked.now (g.F.Files.held c.args.files.now) c.args.request.now c.args.answer.now c.in-Next.problem c.conclude_answer.result
    (g.F.Files.read_faults c.args.files.now) (g.F.Files.read_faults c.conclude_answer.new.files)
    (plan_next c.args.system.now c.args.asked.now c.args.request.now c.in_ok-outcome.field-0 c.in-Next.problem c.in-Next.is c.in_ok-outcome.ensures).0 c.conclude_answer.ensures.reached
