use Rattle.std.proofs.Common.{◌≡◌}
use Rattle.serde_json.specs.View.{members_view}
use Rattle.hys_stack.specs.Reading.{pairs_of, shape_fault}
use Rattle.hys_stack.proofs.named.check_shapes.Given as goal

abbrev pub invariant-loop-key : goal.invariant-loop-key
invariant-loop-key l =
    (goal.iterator-loop-key).can_next l.key-iterator
    × ((goal.iterator-loop-key).is_finite l.key-iterator
    × (shape_fault l.path (pairs_of (members_view l.members.entries)) ≡ shape_fault l.path (pairs_of (members_view l.key-iterator))))
