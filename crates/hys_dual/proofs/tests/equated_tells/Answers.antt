use Rattle.std.proofs.Common.{subst, sym}
use Rattle.hys_lin.specs.Problem.{IsProblem}
use Rattle.hys_dual.proofs.Samples.{equated_is}
use Rattle.hys_dual.proofs.tests.equated_tells.Goals as goal

pub solved-requires-clause-problem : goal.solved-requires-clause-problem
solved-requires-clause-problem c = subst IsProblem (sym c.in_ok-problem.ensures) equated_is
