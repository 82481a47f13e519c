use Rattle.std.proofs.Common.{subst, sym}
use Rattle.hys_lin.specs.Problem.{IsProblem}
use Rattle.hys_dual.proofs.Samples.{decaying_is}
use Rattle.hys_dual.proofs.tests.replayed.Goals as goal

pub start-requires : goal.start-requires
start-requires c = subst IsProblem (sym c.in_ok-problem.ensures) decaying_is
