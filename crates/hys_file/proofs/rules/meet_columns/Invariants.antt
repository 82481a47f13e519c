use Rattle.std.proofs.Common.{◌≡◌, ◌++◌, map, drop}
use Rattle.hys_base.specs.Differ.{Differ}
use Rattle.hys_file.specs.Reading.{column_name}
use Rattle.hys_file.proofs.rules.meet_columns.Given as goal

abbrev pub invariant-loop-column : goal.invariant-loop-column
invariant-loop-column l =
    (l.met ++ map column_name (drop l.column-index l.columns) ≡ l.fn.met ++ map column_name l.columns) × (Differ l.fn.met → Differ l.met)
