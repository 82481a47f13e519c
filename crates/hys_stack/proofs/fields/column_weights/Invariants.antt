use Rattle.std.proofs.Common.{◌≡◌, ◌++◌, map, drop}
use Rattle.serde_json.specs.View.{view}
use Rattle.hys_stack.specs.Reading.{column_weight}
use Rattle.hys_stack.proofs.fields.column_weights.Given as goal

abbrev pub invariant-loop-column : goal.invariant-loop-column
invariant-loop-column l = l.weights.items ++ map (column_weight (view l.value)) (drop l.column-index l.columns) ≡ map (column_weight (view l.value)) l.columns
