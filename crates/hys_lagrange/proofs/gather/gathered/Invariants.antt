use Rattle.hys_lagrange.specs.Costs.{with_cost}
use Rattle.hys_lagrange.proofs.Gathering.{IsGatheredTo}
use Rattle.hys_lagrange.proofs.gather.gathered.Given as goal

abbrev pub invariant-loop-k : goal.invariant-loop-k
invariant-loop-k l = IsGatheredTo (with_cost l.problem l.cost) l.pairs l.k l.sums.items
