use Rattle.std.proofs.Common.{◌≡◌, map, take, drop}
use Rattle.std.specs.List.{AllByRecursion}
use Rattle.serde_json.specs.View.{view}
use Rattle.hys_json.proofs.writer.write_list.Given as goal

abbrev pub invariant-loop-item : goal.invariant-loop-item
invariant-loop-item g l =
    (map view l.values.items ≡ map g.W.Writer.shown (take l.item-index l.items))
    × (AllByRecursion g.W.Writer.fit (drop l.item-index l.items) → AllByRecursion g.W.Writer.fit l.items)
