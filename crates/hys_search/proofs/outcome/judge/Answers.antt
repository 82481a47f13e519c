use Rattle.std.proofs.Common.{subst}
use Rattle.hys_dual.specs.Relaxing.{IsRelaxed}
use Rattle.hys_search.proofs.outcome.judge.Goals as goal
use Rattle.hys_dual.specs.Relaxing.{IsLeast}
use Rattle.hys_search.proofs.Outcomes.{units_of}

pub branch_column-requires : goal.branch_column-requires
branch_column-requires c =
    let P = c.args.problem.now in
    let fs = c.args.fixings.now in
    let l : IsLeast P fs c.in-Least.point.values c.in-Least.multipliers.pairs = subst (IsRelaxed P fs) c.in-Least.is c.requires.relaxed in
    units_of P fs c.in-Least.point c.requires.problem c.requires.node l.least.is_point
