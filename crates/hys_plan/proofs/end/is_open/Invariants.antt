use Rattle.std.proofs.Common.{ℕ, ◌<◌, get_or}
use Rattle.hys_plan.proofs.end.is_open.Given as goal
use Rattle.hys_search.specs.Picks.{no_entry}
use Rattle.hys_search.specs.Standings.{IsSettledBy}

abbrev pub invariant-loop-entry : goal.invariant-loop-entry
invariant-loop-entry l = (k : ℕ) → k < l.entry-index → IsSettledBy l.search.found (get_or l.search.waiting k no_entry).bound
