use Rattle.std.proofs.Common.{◌≡◌, subst, sym}
use Rattle.hys_lin.specs.Problem.{IsProblem}
use Rattle.hys_relax.proofs.Examples.{worked_problem}
use Rattle.hys_tab.proofs.tests.started.Goals as goal

pub start-requires : goal.start-requires
start-requires c = subst IsProblem (sym c.in_ok-problem.ensures) worked_problem
