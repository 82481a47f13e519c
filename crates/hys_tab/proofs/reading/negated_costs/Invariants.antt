use Rattle.std.proofs.Common.{◌≡◌, ◌<◌, ℕ, length, slice_index_or}
use Rattle.hys_number.specs.Ops.{whole}
use Rattle.hys_tab.specs.Cells.{negated_cost}
use Rattle.hys_tab.proofs.reading.negated_costs.Given as goal

-- the columns before j have given their cells
abbrev pub invariant-loop-j : goal.invariant-loop-j
invariant-loop-j l = (length l.list.items ≡ l.rows) × ((k : ℕ) → k < l.rows → slice_index_or l.list.items k (whole 0) ≡ negated_cost l.cells l.outside l.rows l.j k)
