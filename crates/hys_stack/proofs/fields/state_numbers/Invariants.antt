use Rattle.std.proofs.Common.{◌≡◌, ◌++◌, map, drop}
use Rattle.serde_json.specs.View.{view}
use Rattle.hys_stack.specs.Requests.{state_columns}
use Rattle.hys_stack.specs.Reading.{state_names, column_name, weight_in}
use Rattle.hys_stack.proofs.fields.state_numbers.Given as goal

abbrev pub invariant-loop-column : goal.invariant-loop-column
invariant-loop-column l = l.numbers.items ++ map (weight_in (view l.value)) (map column_name (state_columns (drop l.column-index l.system.columns))) ≡ map (weight_in (view l.value)) (state_names l.system)
