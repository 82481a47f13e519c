use Rattle.std.proofs.Common.{◌≡◌, ◌<◌, ◌≤◌, ℕ, length, false}
use Rattle.hys_number.specs.Ops.{whole}
use Rattle.hys_tab.specs.Cells.{cell_at, row_of, slack_cell, AllFit}
use Rattle.hys_tab.proofs.slack_basis.fill_rows.Given as goal

abbrev pub invariant-loop-i : goal.invariant-loop-i
invariant-loop-i l = record {
  shape : length l.cells ≡ length l.fn.cells;
  there : (a b : ℕ) → a < l.i → b < l.width → cell_at l.cells l.width a b ≡ slack_cell l.width (row_of l.rows a).terms (row_of l.rows a).bound false b;
  blank : (a b : ℕ) → l.i ≤ a → a < l.height → b < l.width → cell_at l.cells l.width a b ≡ whole 0;
  fit : AllFit l.cells l.height l.width;
}
