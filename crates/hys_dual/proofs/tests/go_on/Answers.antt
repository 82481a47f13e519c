use Rattle.std.proofs.Common.{[], arith}
use Rattle.hys_dual.proofs.Lawful.{warm_below}
use Rattle.hys_dual.proofs.tests.go_on.Goals as goal

pub solve_from-requires-clause-warm : goal.solve_from-requires-clause-warm
solve_from-requires-clause-warm c = c.in_ok-begun.ensures.warm []

pub solve_from-requires-2-clause-warm : goal.solve_from-requires-2-clause-warm
solve_from-requires-2-clause-warm c = warm_below c.in_ok-problem.problem 0 c.as_slice.result.now c.in_ok-warm.warm (omega arith) c.in_ok-warm.ensures.warm
