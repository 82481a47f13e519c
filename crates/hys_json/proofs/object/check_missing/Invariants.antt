use Rattle.std.proofs.Common.{◌≡◌, map, drop}
use Rattle.serde_json.specs.View.{view}
use Rattle.hys_json.specs.Checks.{first_fault}
use Rattle.hys_json.specs.Values.{missing_checks}
use Rattle.hys_json.proofs.object.check_missing.Given as goal

abbrev pub invariant-loop-key : goal.invariant-loop-key
invariant-loop-key l =
    first_fault (missing_checks (map (λ k. k.now) l.keys) (view l.value)) ≡ first_fault (missing_checks (map (λ k. k.now) (drop l.key-index l.keys)) (view l.value))
