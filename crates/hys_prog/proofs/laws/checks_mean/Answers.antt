use Rattle.hys_prog.proofs.Deciding.{box_yes, yes_box}
use Rattle.hys_prog.proofs.Judging.{gap_shut, gap_open, lawful_demand, demand_lawful}
use Rattle.hys_prog.proofs.laws.checks_mean.Goals as goal

pub returns-clause-boxed : goal.returns-clause-boxed
returns-clause-boxed c = λ k a. (box_yes k a, yes_box k a)

pub returns-clause-gap : goal.returns-clause-gap
returns-clause-gap c = λ k e g. (gap_shut k e g, gap_open k e g)

pub returns-clause-demand : goal.returns-clause-demand
returns-clause-demand c = λ w k b. (lawful_demand w k b, demand_lawful w k b)
