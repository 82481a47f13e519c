use Rattle.std.proofs.Common.{◌≡◌, ◌-◌}
use Rattle.hys_plan.proofs.planner.run.Given as goal
use Rattle.hys_search.specs.Core.{Holds}

abbrev pub invariant-loop-search : goal.invariant-loop-search
invariant-loop-search g l = Holds l.search × (l.search.problem ≡ l.fn.problem) × (l.search.limit ≡ l.fn.nodes)

abbrev pub decreases-loop-search : goal.decreases-loop-search
decreases-loop-search g l = l.search.limit - l.search.expanded
