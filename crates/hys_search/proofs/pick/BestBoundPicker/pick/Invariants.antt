use Rattle.hys_search.proofs.pick.BestBoundPicker.pick.Given as goal
use Rattle.hys_search.specs.Picks.{IsLeastOf}

abbrev pub invariant-loop-i : goal.invariant-loop-i
invariant-loop-i l = IsLeastOf l.waiting l.i l.best
