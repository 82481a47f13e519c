use Rattle.std.proofs.Common.{subst, sym, []}
use Rattle.hys_lin.specs.Problem.{IsProblem}
use Rattle.hys_lin.specs.declared.problem.Problem.{Problem}
use Rattle.hys_relax.specs.BoundSum.{BoundFits}
use Rattle.hys_relax.proofs.Examples.{worked_problem}
use Rattle.hys_plan.proofs.Samples.{switches_fit}
use Rattle.hys_plan.proofs.examples.switches.Goals as goal

pub returns-clause-sound : goal.returns-clause-sound
returns-clause-sound c = subst IsProblem (sym c.in_ok-problem.ensures) worked_problem

pub returns-clause-plain : goal.returns-clause-plain
returns-clause-plain c = subst (λ (p : Problem). BoundFits p [] []) (sym c.in_ok-problem.ensures) switches_fit
