use Rattle.std.proofs.Common.{◌≡◌, ◌++◌, drop}
use Rattle.hys_prog.specs.Steps.{places_from}
use Rattle.hys_prog.specs.Walk.{is_role}
use Rattle.hys_prog.proofs.given.places_of.Given as goal

abbrev pub invariant-loop-n : goal.invariant-loop-n
invariant-loop-n l = l.places.items ++ places_from l.n (is_role l.part) (drop l.n l.names) ≡ places_from 0 (is_role l.part) l.names
