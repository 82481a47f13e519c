use Rattle.hys_search.proofs.pick.DepthFirstPicker.pick.Given as goal
use Rattle.hys_search.specs.Picks.{IsDeepestOf}

abbrev pub invariant-loop-i : goal.invariant-loop-i
invariant-loop-i l = IsDeepestOf l.waiting l.i l.deepest
