-- Tableaux that agree at their places: what a table in memory shows of a tableau.
use Rattle.std.specs.Prelude.{◌≡◌, ℕ, ◌<◌, ◌≤◌}
use Rattle.hys_simplex.specs.Tableau.{Tableau}

-- the same sizes, and the same cells and variables at the places that are there
pub record IsAlike (T T' : Tableau) : Type 0 where
  pub wide : T.columns ≡ T'.columns
  pub tall : T.rows ≡ T'.rows
  pub cells : (i j : ℕ) → i ≤ T.rows → j ≤ T.columns → T.cell i j ≡ T'.cell i j
  pub basics : (i : ℕ) → i ≤ T.rows → T.basic i ≡ T'.basic i
  pub outsides : (j : ℕ) → j < T.columns → T.outside j ≡ T'.outside j
