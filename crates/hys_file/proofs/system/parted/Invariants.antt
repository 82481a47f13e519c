use Rattle.std.proofs.Common.{◌≡◌, ◌++◌, map}
use Rattle.hys_file.specs.Reading.{row_of, label_of}
use Rattle.hys_file.proofs.system.parted.Given as goal

abbrev pub invariant-loop-row : goal.invariant-loop-row
invariant-loop-row l = (l.rows.items ++ map row_of l.row-iterator.rest.items ≡ map row_of l.fn.labelled.items) × (l.labels.items ++ map label_of l.row-iterator.rest.items ≡ map label_of l.fn.labelled.items)
