use Rattle.std.proofs.Common.{◌≡◌, ◌≢◌, ◌<◌, ◌≤◌, ℕ, length, drop}
use Rattle.hys_tab.specs.Cells.{cell_at, slack_cell, AllFit}
use Rattle.hys_tab.proofs.slack_basis.fill_row.Given as goal

-- the terms from `left` on are in the row
abbrev pub invariant-loop-left : goal.invariant-loop-left
invariant-loop-left l = record {
  shape : length l.cells ≡ length l.fn.cells;
  within : l.left ≤ length l.terms;
  there : (b : ℕ) → b < l.width → cell_at l.cells l.width l.i b ≡ slack_cell l.width (drop l.left l.terms) l.fn.constant l.negated b;
  others : (a b : ℕ) → a < l.height → b < l.width → a ≢ l.i → cell_at l.cells l.width a b ≡ cell_at l.fn.cells l.width a b;
  fit : AllFit l.cells l.height l.width;
}

abbrev pub decreases-loop-left : goal.decreases-loop-left
decreases-loop-left l = l.left
