use Rattle.std.proofs.Common.{◌≡◌, ◌++◌, drop, map}
use Rattle.hys_prog.specs.Steps.{is_state, places_from}
use Rattle.hys_mld.specs.Forms.{form_at}
use Rattle.hys_mld.proofs.forms.next_forms.Given as goal

abbrev pub invariant-loop-n : goal.invariant-loop-n
invariant-loop-n l = l.next.items ++ map (form_at l.places l.forms) (places_from l.n is_state (drop l.n l.names)) ≡ map (form_at l.places l.forms) (places_from 0 is_state l.names)
