-- A number of the ruled dual simplex method that doesn't fit: which place of the tableau after a path it stands at.
-- What fits is a parameter, a test on numbers.
use Rattle.std.specs.Prelude.{◌≡◌, ℕ, zero, suc, ◌<◌, ◌≤◌, ◌⊎◌, ◌==◌, List, [], ◌∷◌, ◌++◌, length, Bool, false, IsTrue, not, if◌then◌else◌}
use Rattle.std.specs.List.{list_any}
use Rattle.hys_number.specs.Number.{Number}
use Rattle.hys_number.specs.Ops.{◌*ₙ◌, ◌-ₙ◌, ◌/ₙ◌, whole}
use Rattle.hys_number.specs.Sums.{sum_to}
use Rattle.hys_lin.specs.Sums.{Assignment, at}
use Rattle.hys_lin.specs.Operations.{outcome, times, minus, summing}
use Rattle.hys_lin.specs.declared.lost.Lost.{Lost}
use Rattle.hys_lin.specs.declared.problem.Problem.{Problem}
use Rattle.hys_relax.specs.Node.{Boxes, node_boxes}
use Rattle.hys_relax.specs.LinearProgram.{LinearProgram, linear_program, row_at}
use Rattle.hys_relax.specs.Bound.{AreLawful, costless}
use Rattle.hys_relax.specs.BoundSum.{not_zero, joined_to, bound_operations}
use Rattle.hys_relax.specs.declared.fixing.Fixing.{Fixing}
use Rattle.hys_relax.specs.declared.range.TablePlace.{TablePlace}
use Rattle.hys_relax.specs.declared.range.TablePlace.TheVariants.{Cell, Value, Sum}
use Rattle.hys_simplex.specs.Tableau.{Tableau, pivoted, cost_multiplier, row_multiplier}
use Rattle.hys_simplex.specs.Status.{InRange, end_value, basic_value, status_point, AllInside}
use Rattle.hys_simplex.specs.Rule.{IsLeaving, IsRuled, IsStranded}
use Rattle.hys_simplex.specs.Path.{IsPathAt, tableau_after}

-- some product, sum or difference of the list doesn't fit
abbrev pub SomeUnfit : (Number → Bool) → List Lost → Type 0
SomeUnfit fits os = IsTrue (list_any (λ o. not (fits (outcome o))) os)

-- ---- cells
-- what is subtracted to make the cell at row i and column j under a pivot at row r and column c
abbrev pub subtracted : (ℕ → ℕ → Number) → ℕ → ℕ → ℕ → ℕ → Number
subtracted M r c i j = M i c *ₙ (M r j /ₙ M r c)

-- the cell is in another row and another column than the pivot
abbrev pub IsApart : ℕ → ℕ → ℕ → ℕ → Type 0
IsApart r c i j = (¬ (i ≡ r)) × (¬ (j ≡ c))

-- the cell's new number, or the product that is subtracted to make it, doesn't fit
abbrev pub CellUnfit : (Number → Bool) → (ℕ → ℕ → Number) → ℕ → ℕ → ℕ → ℕ → Type 0
CellUnfit fits M r c i j = (fits (pivoted M r c i j) ≡ false) ⊎ (IsApart r c i j × (fits (subtracted M r c i j) ≡ false))

-- ---- values
-- the operations of a basic value, from the row's constant and in the order of the columns
abbrev pub value_operations : LinearProgram → Boxes → Tableau → ℕ → List Lost
value_operations P B T i = joined_to T.columns (λ j. times (T.cell i j) (end_value P B T j)
    ∷ minus (T.cell i T.columns -ₙ sum_to j (λ q. T.cell i q *ₙ end_value P B T q)) (T.cell i j *ₙ end_value P B T j) ∷ [])

-- the operations of a row's sum at a point; the row after those of the problem is that of the cost
abbrev pub point_operations : Problem → Assignment → ℕ → List Lost
point_operations p x i = if i == length p.rows
    then summing p.cost.constant p.cost.terms (λ t. x t.column)
    else summing (whole 0) (row_at p i).terms (λ t. x t.column)

-- ---- multipliers as pairs
-- the rows below m with their multipliers, without those that are 0
abbrev pub pairs_to : ℕ → (ℕ → Number) → List (ℕ × Number)
pairs_to zero y = []
pairs_to (suc n) y = pairs_to n y ++ (if not_zero (y n).num then (n, y n) ∷ [] else [])

abbrev pub cost_pairs : Problem → Tableau → List (ℕ × Number)
cost_pairs p T = pairs_to (length p.rows) (cost_multiplier (linear_program p) T)

abbrev pub row_pairs : Problem → Tableau → ℕ → Number → List (ℕ × Number)
row_pairs p T r side = pairs_to (length p.rows) (row_multiplier (linear_program p) T r side)

-- ---- places
-- no row before r has its basic value off its range
abbrev pub InsideBefore : LinearProgram → Boxes → Tableau → ℕ → Type 0
InsideBefore P B T r = (i : ℕ) → i < r → InRange P B (T.basic i) (basic_value P B T i)

-- a number of the bound's sum of the multipliers that the row gives for Never doesn't fit: the row is the first whose
-- basic value is off its range, it can't be brought to it, and the multipliers are lawful
pub record RowSumUnfit (fits : Number → Bool) (p : Problem) (B : Boxes) (T : Tableau) : Type 0 where
  pub row : ℕ
  pub side : Number
  pub near : Number
  pub leaving : IsLeaving (linear_program p) B T row side near
  pub stranded : IsStranded (linear_program p) B T row side near
  pub lawful : AreLawful p (row_pairs p T row side)
  pub unfit : SomeUnfit fits (bound_operations (costless p) B (row_pairs p T row side))

-- the next pivot is the rule's, and the cell is one of the tableau's that doesn't fit under it
pub record PivotUnfit (fits : Number → Bool) (P : LinearProgram) (B : Boxes) (T : Tableau) (i j : ℕ) : Type 0 where
  pub row : ℕ
  pub column : ℕ
  pub ruled : IsRuled P B T row column
  pub in_rows : i ≤ P.rows
  pub in_columns : j ≤ P.columns
  pub unfit : CellUnfit fits T.cell row column i j

-- with boxes B the place of the tableau T stands for a number that doesn't fit
abbrev pub UnfitAt : (Number → Bool) → Problem → Boxes → Tableau → TablePlace → Type 0
UnfitAt fits p B T (Cell i j) = PivotUnfit fits (linear_program p) B T i j
UnfitAt fits p B T (Value i) =
    ((i < length p.rows) × InsideBefore (linear_program p) B T i × SomeUnfit fits (value_operations (linear_program p) B T i))
    ⊎ ((i ≤ length p.rows) × AllInside (linear_program p) B T × SomeUnfit fits (point_operations p (at (status_point (linear_program p) B T)) i))
UnfitAt fits p B T Sum =
    (AllInside (linear_program p) B T × SomeUnfit fits (bound_operations p B (cost_pairs p T)))
    ⊎ RowSumUnfit fits p B T

-- the path is ruled at the node, and after it the place stands for a number that doesn't fit
abbrev pub Unfit : (Number → Bool) → Problem → List Fixing → List (ℕ × ℕ) → TablePlace → Type 0
Unfit fits p fixings path place = IsPathAt p fixings path × UnfitAt fits p (node_boxes p fixings) (tableau_after p path) place
