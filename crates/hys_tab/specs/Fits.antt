-- Which cells of a tableau fit under a pivot.
use Rattle.std.specs.Prelude.{◌≡◌, ℕ, ◌<◌, ◌≤◌, ◌⊎◌}
use Rattle.hys_number.specs.Ops.{fits}
use Rattle.hys_simplex.specs.Tableau.{Tableau}
use Rattle.hys_simplex.specs.Unfit.{CellUnfit}

-- the place stands before the other, row by row
abbrev pub IsBefore : (a b i j : ℕ) → Type 0
IsBefore a b i j = (a < i) ⊎ ((a ≡ i) × (b < j))

-- the first cell, row by row with those of the cost and the constants last, whose new number under a pivot doesn't
-- fit, or the product that is subtracted to make it
pub record IsFirstUnfit (T : Tableau) (r c i j : ℕ) : Type 0 where
  pub in_rows : i ≤ T.rows
  pub in_columns : j ≤ T.columns
  pub unfit : CellUnfit fits T.cell r c i j
  pub before : (a b : ℕ) → b ≤ T.columns → IsBefore a b i j → ¬ (CellUnfit fits T.cell r c a b)

-- under a pivot every cell fits
abbrev pub FitsUnder : Tableau → ℕ → ℕ → Type 0
FitsUnder T r c = (i j : ℕ) → i ≤ T.rows → j ≤ T.columns → ¬ (CellUnfit fits T.cell r c i j)
