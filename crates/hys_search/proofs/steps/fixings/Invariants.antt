use Rattle.std.proofs.Common.{◌≡◌, ◌<◌, ◌++◌, length, reverse}
use Rattle.hys_search.proofs.steps.fixings.Given as goal
use Rattle.hys_search.specs.Nodes.{path}

abbrev pub invariant-loop-at : goal.invariant-loop-at
invariant-loop-at l =
    (l.at < length l.nodes)
    × (path l.nodes l.at ++ reverse l.found.items ≡ path l.nodes l.fn.place)

abbrev pub decreases-loop-at : goal.decreases-loop-at
decreases-loop-at l = l.at
