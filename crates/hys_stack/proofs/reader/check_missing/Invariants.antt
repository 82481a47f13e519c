use Rattle.std.proofs.Common.{◌≡◌, [], map, drop}
use Rattle.serde_json.specs.View.{view}
use Rattle.hys_stack.specs.Reading.{missing_fault}
use Rattle.hys_stack.proofs.reader.check_missing.Given as goal

abbrev pub invariant-loop-key : goal.invariant-loop-key
invariant-loop-key l = missing_fault [] (map (λ k. k.now) l.keys) (view l.value) ≡ missing_fault [] (map (λ k. k.now) (drop l.key-index l.keys)) (view l.value)
