use Rattle.std.proofs.Common.{drop}
use Rattle.std.specs.List.{AllByRecursion}
use Rattle.hys_sys.specs.declared.system.Column.{Column}
use Rattle.hys_sys.specs.System.{IsBox}
use Rattle.hys_file.proofs.rules.have_boxes.Given as goal

abbrev pub invariant-loop-column : goal.invariant-loop-column
invariant-loop-column l =
    AllByRecursion (λ (c : Column). IsBox c.kind c.bounds) (drop l.column-index l.columns) → AllByRecursion (λ (c : Column). IsBox c.kind c.bounds) l.columns
