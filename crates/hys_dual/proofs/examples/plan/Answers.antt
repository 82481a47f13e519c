use Rattle.std.proofs.Common.{subst, sym}
use Rattle.hys_lin.specs.Problem.{IsProblem}
use Rattle.hys_relax.proofs.Examples.{worked_problem}
use Rattle.hys_dual.proofs.examples.plan.Goals as goal

pub returns-clause-sound : goal.returns-clause-sound
returns-clause-sound c = subst IsProblem (sym c.in_ok-problem.ensures) worked_problem
