use Rattle.std.proofs.Common.{◌≡◌, ◌++◌, drop}
use Rattle.hys_prog.specs.Steps.{places_from, is_auxiliary}
use Rattle.hys_order.proofs.auxiliaries.auxiliaries.Given as goal

-- with those of the names that are left the places are all
abbrev pub invariant-loop-n : goal.invariant-loop-n
invariant-loop-n l = l.places.items ++ places_from l.n is_auxiliary (drop l.n l.names) ≡ places_from 0 is_auxiliary l.names
