use Rattle.std.proofs.Common.{◌≡◌, ◌<◌, ℕ, true}
use Rattle.hys_tab.specs.Cells.{cell_at, fits_under}
use Rattle.hys_tab.proofs.cells.first_unfit.Given as goal

abbrev pub invariant-loop-i : goal.invariant-loop-i
invariant-loop-i l = (a b : ℕ) → a < l.i → b < l.pivot.width → fits_under (cell_at l.cells l.pivot.width) l.pivot.row l.pivot.column a b ≡ true
