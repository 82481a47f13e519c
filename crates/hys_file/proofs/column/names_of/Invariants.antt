use Rattle.std.proofs.Common.{◌≡◌, ◌++◌, map, drop}
use Rattle.hys_file.specs.Reading.{column_name}
use Rattle.hys_file.proofs.Distinct.{Fresh}
use Rattle.hys_file.proofs.column.names_of.Given as goal

abbrev pub invariant-loop-column : goal.invariant-loop-column
invariant-loop-column l =
    (l.names ++ map column_name (drop l.column-index l.columns) ≡ map column_name l.columns)
    × Fresh l.names (map column_name (drop l.column-index l.columns))
