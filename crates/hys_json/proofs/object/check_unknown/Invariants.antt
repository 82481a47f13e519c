use Rattle.std.proofs.Common.{◌≡◌, map, string_bytes}
use Rattle.serde_json.specs.View.{members_view}
use Rattle.hys_json.specs.Checks.{first_fault}
use Rattle.hys_json.specs.Values.{unknown_checks, keys_of}
use Rattle.hys_json.proofs.object.check_unknown.Given as goal

abbrev pub invariant-loop-key : goal.invariant-loop-key
invariant-loop-key l =
    (goal.iterator-loop-key).can_next l.key-iterator
    × ((goal.iterator-loop-key).is_finite l.key-iterator
    × (first_fault (unknown_checks (map (λ k. k.now) l.keys) (keys_of (members_view l.members.entries))) ≡ first_fault (unknown_checks (map (λ k. k.now) l.keys) (map string_bytes l.key-iterator))))
