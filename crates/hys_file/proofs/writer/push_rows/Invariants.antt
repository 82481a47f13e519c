use Rattle.std.proofs.Common.{◌≡◌, ◌∷◌, ◌++◌, false, drop, string_bytes}
use Rattle.std.specs.List.{AllByRecursion}
use Rattle.serde_json.specs.View.{items_of}
use Rattle.serde_json.specs.Written.{items_text}
use Rattle.hys_file.specs.Matrix.{rows_data}
use Rattle.hys_file.specs.Fitting.{RowFits}
use Rattle.hys_file.proofs.Pieces.{rows_from}
use Rattle.hys_file.proofs.writer.push_rows.Given as goal

abbrev pub invariant-loop-at : goal.invariant-loop-at
invariant-loop-at l =
    (string_bytes l.text ++ rows_from l.labels l.rows l.at ≡ string_bytes l.fn.text ++ (91 ∷ items_text false (items_of (rows_data l.labels l.rows))))
    × (AllByRecursion RowFits (drop l.at l.rows) → AllByRecursion RowFits l.rows)
