use Rattle.std.proofs.Common.{◌≡◌, ◌<◌, ℕ, true}
use Rattle.hys_tab.specs.Cells.{cell_at, fits_under}
use Rattle.hys_tab.proofs.cells.first_in_row.Given as goal

abbrev pub invariant-loop-j : goal.invariant-loop-j
invariant-loop-j l = (q : ℕ) → q < l.j → fits_under (cell_at l.cells l.pivot.width) l.pivot.row l.pivot.column l.i q ≡ true
