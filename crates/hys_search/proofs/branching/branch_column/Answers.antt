use Rattle.std.proofs.Common.{subst, sym, List, ℕ}
use Rattle.hys_search.proofs.branching.branch_column.Goals as goal
use Rattle.hys_search.proofs.Among.{bits_each, units_each}
use Rattle.hys_search.specs.Branching.{EachBit, EachUnit}

pub split_among-requires : goal.split_among-requires
split_among-requires c = subst (λ (cs : List ℕ). EachUnit cs c.args.point.now) (sym c.items.ensures) (units_each c.args.problem.now c.args.point.now c.requires)

pub dearest-requires-clause-units : goal.dearest-requires-clause-units
dearest-requires-clause-units c = subst (λ (cs : List ℕ). EachUnit cs c.args.point.now) (sym c.items-columns.ensures) (units_each c.args.problem.now c.args.point.now c.requires)

pub returns-in-None : goal.returns-in-None
returns-in-None c = bits_each c.args.problem.now c.args.point.now (subst (λ (cs : List ℕ). EachBit cs c.args.point.now) c.items.ensures c.in-None.ensures)
