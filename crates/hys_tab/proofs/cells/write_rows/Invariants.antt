use Rattle.std.proofs.Common.{◌≡◌, length}
use Rattle.hys_tab.specs.Cells.{cell_at}
use Rattle.hys_tab.proofs.Steps.{IsUpTo}
use Rattle.hys_tab.proofs.cells.write_rows.Given as goal

abbrev pub invariant-loop-i : goal.invariant-loop-i
invariant-loop-i l = record {
  shape : length l.cells ≡ length l.initial.cells;
  done : IsUpTo (cell_at l.initial.cells l.pivot.width) (cell_at l.cells l.pivot.width) l.pivot.height l.pivot.width l.pivot.row l.pivot.column l.i;
}
