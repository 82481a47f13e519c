use Rattle.std.proofs.Common.{◌≡◌, drop}
use Rattle.hys_lin.specs.Sums.{at}
use Rattle.hys_prog.specs.Stops.{first_stop, demands_from}
use Rattle.hys_prog.proofs.along.judge_demands.Given as goal

-- the first stop is that of the items that are still to be judged
abbrev pub invariant-loop-k : goal.invariant-loop-k
invariant-loop-k l = first_stop (demands_from 0 (at l.values) l.items) ≡ first_stop (demands_from l.k (at l.values) (drop l.k l.items))
