use Rattle.std.proofs.Common.{◌≡◌, length}
use Rattle.hys_tab.specs.Cells.{cell_at}
use Rattle.hys_tab.proofs.Steps.{IsWritten}
use Rattle.hys_tab.proofs.cells.write_row.Given as goal

abbrev pub invariant-loop-j : goal.invariant-loop-j
invariant-loop-j l = record {
  shape : length l.cells ≡ length l.initial.cells;
  written : IsWritten (cell_at l.initial.cells l.pivot.width) (cell_at l.cells l.pivot.width) l.pivot.height l.pivot.width l.pivot.row l.pivot.column l.i l.j;
}
