use Rattle.std.proofs.Common.{◌≡◌, map, drop}
use Rattle.serde_json.specs.View.{view}
use Rattle.hys_stack.specs.Reading.{unnamed_fault}
use Rattle.hys_stack.proofs.fields.check_all_named.Given as goal

abbrev pub invariant-loop-name : goal.invariant-loop-name
invariant-loop-name l = unnamed_fault (map (λ k. k.now) l.names) (view l.value) ≡ unnamed_fault (map (λ k. k.now) (drop l.name-index l.names)) (view l.value)
