use Rattle.std.proofs.Common.{◌≡◌, ◌++◌, map, drop}
use Rattle.hys_stack.specs.Requests.{state_columns}
use Rattle.hys_stack.specs.Reading.{state_names, column_name}
use Rattle.hys_stack.proofs.fields.state_names.Given as goal

abbrev pub invariant-loop-column : goal.invariant-loop-column
invariant-loop-column l = map (λ k. k.now) l.names.items ++ map column_name (state_columns (drop l.column-index l.system.columns)) ≡ state_names l.system
