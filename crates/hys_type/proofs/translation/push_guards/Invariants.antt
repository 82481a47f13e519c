use Rattle.std.proofs.Common.{◌≡◌, ◌≤◌, ◌+◌, ◌-◌, ◌++◌, length}
use Rattle.std.specs.Vec.Iter.{into_iter_items}
use Rattle.hys_type.specs.Guarding.{names_of_guards, items_of_guards}
use Rattle.hys_type.proofs.translation.push_guards.Given as goal

-- what is there with what is still to come is what there was with all
abbrev pub invariant-loop-guard : goal.invariant-loop-guard
invariant-loop-guard l =
    ((goal.iterator-loop-guard).can_next l.guard-iterator)
    × ((goal.iterator-loop-guard).is_finite l.guard-iterator)
    × (l.declared ≤ length l.names.items)
    × (l.names.items ++ names_of_guards (length l.names.items - l.declared + 1) (into_iter_items l.guard-iterator)
    ≡ l.initial.names.items ++ names_of_guards (length l.initial.names.items - l.declared + 1) (into_iter_items l.initial.guard-iterator))
    × (l.items.items ++ items_of_guards (length l.names.items) l.eps (into_iter_items l.guard-iterator)
    ≡ l.initial.items.items ++ items_of_guards (length l.initial.names.items) l.eps (into_iter_items l.initial.guard-iterator))
