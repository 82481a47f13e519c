use Rattle.std.proofs.lemmas.Result.{IfOk-weaker}
use Rattle.hys_plan.proofs.planner.plan.Goals as goal
use Rattle.hys_plan.proofs.Answering.{all_fit, answered, shows}
use Rattle.hys_plan.specs.Answer.{IsAnswered}
use Rattle.hys_plan.specs.Planned.{IsPlanned}
use Rattle.hys_tree.specs.Fits.{Fits}
use Rattle.hys_tree.specs.Shows.{Shows}

pub returns-clause-shows : goal.returns-clause-shows
returns-clause-shows g c = IfOk-weaker c.run.result (λ a. IsPlanned c.args.problem c.args.nodes a) (λ a. Shows c.args.problem a.tree.places a.claim) (λ a h. shows c.args.problem c.args.nodes a h) c.run.ensures.planned

pub returns-clause-fits : goal.returns-clause-fits
returns-clause-fits g c = IfOk-weaker c.run.result (λ a. IsPlanned c.args.problem c.args.nodes a) (λ a. Fits c.args.problem a.tree.places a.claim) (λ a h. all_fit c.args.problem c.args.nodes a h) c.run.ensures.planned

pub returns-clause-answered : goal.returns-clause-answered
returns-clause-answered g c = IfOk-weaker c.run.result (λ a. IsPlanned c.args.problem c.args.nodes a) (λ a. IsAnswered c.args.problem c.args.nodes a) (λ a h. answered c.args.problem c.args.nodes a h) c.run.ensures.planned
