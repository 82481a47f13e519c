use Rattle.std.proofs.Common.{◌≡◌, ◌++◌, map, drop, filter}
use Rattle.hys_stack.specs.Reading.{column_name, isnt_fresh}
use Rattle.hys_stack.proofs.fields.push_columns.Given as goal

abbrev pub invariant-loop-column : goal.invariant-loop-column
invariant-loop-column l =
    map (λ k. k.now) l.names.items ++ filter isnt_fresh (map column_name (drop l.column-index l.columns)) ≡ map (λ k. k.now) l.fn.names.items ++ filter isnt_fresh (map column_name l.columns)
