use Rattle.std.proofs.Common.{subst, sym}
use Rattle.hys_lin.specs.Problem.{IsProblem}
use Rattle.hys_dual.proofs.Samples.{decaying_is}
use Rattle.hys_dual.proofs.tests.stuck_at.Goals as goal

pub solve-requires-clause-problem : goal.solve-requires-clause-problem
solve-requires-clause-problem c = subst IsProblem (sym c.in_ok-problem.ensures) decaying_is
