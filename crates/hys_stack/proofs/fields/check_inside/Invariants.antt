use Rattle.std.proofs.Common.{◌≡◌, drop}
use Rattle.serde_json.specs.View.{view}
use Rattle.hys_stack.specs.Requests.{state_columns}
use Rattle.hys_stack.specs.Reading.{outside_fault}
use Rattle.hys_stack.proofs.fields.check_inside.Given as goal

abbrev pub invariant-loop-column : goal.invariant-loop-column
invariant-loop-column l = outside_fault (state_columns l.columns) (view l.value) ≡ outside_fault (state_columns (drop l.column-index l.columns)) (view l.value)
