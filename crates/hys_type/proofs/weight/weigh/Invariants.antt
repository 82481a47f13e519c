use Rattle.std.proofs.Common.{◌≡◌, ◌+◌, map, drop}
use Rattle.std.specs.List.{sum_by}
use Rattle.hys_ast.specs.Seen.{item_of}
use Rattle.hys_meaning.specs.Weight.{item_weight}
use Rattle.hys_prog.specs.Programs.{names_weight}
use Rattle.hys_type.proofs.weight.weigh.Given as goal

abbrev pub invariant-loop-item : goal.invariant-loop-item
invariant-loop-item l = l.weight + sum_by item_weight (map item_of (drop l.item-index l.items)) ≡ names_weight l.fn.names + sum_by item_weight (map item_of l.items)
