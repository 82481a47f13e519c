use Rattle.std.proofs.Common.{subst, sym}
use Rattle.hys_lin.specs.Problem.{IsProblem}
use Rattle.hys_relax.proofs.Examples.{worked_problem}
use Rattle.hys_check.proofs.examples.plan.Goals as goal

pub returns : goal.returns
returns c = subst IsProblem (sym c.in_ok-problem.ensures) worked_problem
