use Rattle.std.proofs.Common.{◌≡◌, [], map, string_bytes}
use Rattle.serde_json.specs.View.{members_view}
use Rattle.hys_json.specs.Values.{keys_of}
use Rattle.hys_stack.specs.Reading.{unknown_fault}
use Rattle.hys_stack.proofs.reader.check_unknown.Given as goal

abbrev pub invariant-loop-key : goal.invariant-loop-key
invariant-loop-key l =
    (goal.iterator-loop-key).can_next l.key-iterator
    × ((goal.iterator-loop-key).is_finite l.key-iterator
    × (unknown_fault [] (map (λ k. k.now) l.keys) (keys_of (members_view l.members.entries)) ≡ unknown_fault [] (map (λ k. k.now) l.keys) (map string_bytes l.key-iterator)))
