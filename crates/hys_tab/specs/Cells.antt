-- Cells that stand in a list, row by row, and which of them fit under a pivot.
use Rattle.std.specs.Prelude.{◌≡◌, ◌≢◌, ℕ, ◌+◌, ◌*◌, ◌<◌, ◌≤◌, ◌==◌, ◌&&◌, if◌then◌else◌, Bool, true, false, List, [], ◌∷◌, length, Option, Some, None, IsTrue}
use Rattle.std.specs.List.{slice_index_or}
use Rattle.std.proofs.Common.{get_or}
use Rattle.hys_number.specs.Number.{Number}
use Rattle.hys_number.specs.Ops.{◌*ₙ◌, whole, fits, neg}
use Rattle.hys_number.specs.Sums.{sum_to}
use Rattle.hys_lin.specs.Sums.{EachColumn}
use Rattle.hys_lin.specs.Scaled.{coefficient}
use Rattle.hys_lin.specs.declared.form.Term.{Term}
use Rattle.hys_lin.specs.declared.form.Row.{Row}
use Rattle.hys_lin.specs.declared.problem.Problem.{Problem}
use Rattle.hys_relax.specs.LinearProgram.{linear_program}
use Rattle.hys_relax.specs.BoundSum.{not_zero}
use Rattle.hys_simplex.specs.Tableau.{pivoted, start, unit}
use Rattle.hys_simplex.specs.Unfit.{subtracted}

-- the cell at row i and column j of rows that are w wide
abbrev pub cell_at : List Number → ℕ → ℕ → ℕ → Number
cell_at xs w i j = slice_index_or xs (i * w + j) (whole 0)

-- whether the new number of a cell fits, and the product that is subtracted to make it, where there is one
abbrev pub fits_under : (ℕ → ℕ → Number) → ℕ → ℕ → ℕ → ℕ → Bool
fits_under M r c i j =
    if i == r
    then fits (pivoted M r c i j)
    else (if j == c then fits (pivoted M r c i j) else fits (subtracted M r c i j) && fits (pivoted M r c i j))

-- every cell fits
abbrev pub AllFit : List Number → ℕ → ℕ → Type 0
AllFit xs h w = (i j : ℕ) → i < h → j < w → fits (cell_at xs w i j) ≡ true

-- the first place below n that doesn't pass, and none where all pass
abbrev pub IsFirstIn : (ℕ → Bool) → ℕ → Option ℕ → Type 0
IsFirstIn ok n None = (k : ℕ) → k < n → ok k ≡ true
IsFirstIn ok n (Some at) = (at < n) × (ok at ≡ false) × ((k : ℕ) → k < at → ok k ≡ true)

-- the first place, row by row, that doesn't pass
abbrev pub IsFirstAt : (ℕ → ℕ → Bool) → ℕ → ℕ → Option (ℕ × ℕ) → Type 0
IsFirstAt ok h w None = (i j : ℕ) → i < h → j < w → ok i j ≡ true
IsFirstAt ok h w (Some at) =
    (at.0 < h) × (at.1 < w) × (ok at.0 at.1 ≡ false)
    × ((j : ℕ) → j < at.1 → ok at.0 j ≡ true) × ((i j : ℕ) → i < at.0 → j < w → ok i j ≡ true)

-- the number, negated where so wished
abbrev pub turned : Bool → Number → Number
turned negated a = if negated then neg a else a

-- the cell at column j of a row of the slack basis that is w wide: the constant in its last column, before it the
-- factors of the terms, negated where so wished
abbrev pub slack_cell : ℕ → List Term → Number → Bool → ℕ → Number
slack_cell w ts constant negated j = if j + 1 == w then constant else turned negated (coefficient ts j)

-- the row at a place
abbrev pub row_of : List Row → ℕ → Row
row_of rows i = get_or rows i (record { terms = []; bound = whole 0; eq = false })

-- another place
pub data IsOther (i j a b : ℕ) : Type 0 where
  row : a ≢ i → IsOther i j a b
  column : b ≢ j → IsOther i j a b

-- the numbers of a list are below a limit, and none comes twice
pub record DifferentBelow (limit : ℕ) (xs : List ℕ) : Type 0 where
  pub below : (j : ℕ) → j < length xs → slice_index_or xs j 0 < limit
  pub once : (i j : ℕ) → i < length xs → j < length xs → slice_index_or xs i 0 ≡ slice_index_or xs j 0 → i ≡ j

-- what the first j columns give to the multiplier of row k: the negated cost cell where its slack stands outside in
-- one of them, else 0; row m is that of the cost
abbrev pub negated_cost : List Number → List ℕ → (m j k : ℕ) → Number
negated_cost cells outside m j k =
    neg (sum_to j (λ q. cell_at cells (length outside + 1) m q *ₙ unit (length outside + k) (slice_index_or outside q 0)))

-- the place with its number, or nothing where that is 0
abbrev pub some_pair : ℕ → Number → List (ℕ × Number)
some_pair k a = if not_zero a.num then (k, a) ∷ [] else []

-- ---- what a table of cells holds
-- the number at a place
abbrev pub number_at : List Number → ℕ → Number
number_at xs k = slice_index_or xs k (whole 0)

-- the cells are those of a function of places
abbrev pub AreCells : List Number → (h w : ℕ) → (ℕ → ℕ → Number) → Type 0
AreCells xs h w M = (i j : ℕ) → i < h → j < w → cell_at xs w i j ≡ M i j

-- so are the cells of row i
abbrev pub IsRowOf : List Number → (w i : ℕ) → (ℕ → Number) → Type 0
IsRowOf xs w i f = (j : ℕ) → j < w → cell_at xs w i j ≡ f j

-- the cells of the rows from n on are 0
abbrev pub AreBlankFrom : ℕ → List Number → (h w : ℕ) → Type 0
AreBlankFrom n xs h w = (i j : ℕ) → n ≤ i → i < h → j < w → cell_at xs w i j ≡ whole 0

-- all cells but those of row i stay
abbrev pub OtherRowsStay : (xs ys : List Number) (h w i : ℕ) → Type 0
OtherRowsStay xs ys h w i = (a b : ℕ) → a < h → b < w → a ≢ i → cell_at ys w a b ≡ cell_at xs w a b

-- all cells but the one at row i and column j stay
abbrev pub OtherCellsStay : (xs ys : List Number) (h w i j : ℕ) → Type 0
OtherCellsStay xs ys h w i j = (a b : ℕ) → a < h → b < w → IsOther i j a b → cell_at ys w a b ≡ cell_at xs w a b

-- ---- what a pivot at row r and column c does to it
-- which of its cells fit
abbrev pub fits_at : List Number → (w r c i j : ℕ) → Bool
fits_at xs w r c i j = fits_under (cell_at xs w) r c i j

-- the new cells of it
abbrev pub pivoted_at : List Number → (w r c i j : ℕ) → Number
pivoted_at xs w r c i j = pivoted (cell_at xs w) r c i j

-- all cells fit
abbrev pub AllFitUnder : List Number → (h w r c : ℕ) → Type 0
AllFitUnder xs h w r c = (i j : ℕ) → i < h → j < w → fits_at xs w r c i j ≡ true

-- all cells of row i fit
abbrev pub RowFitsUnder : List Number → (w r c i : ℕ) → Type 0
RowFitsUnder xs w r c i = (j : ℕ) → j < w → fits_at xs w r c i j ≡ true

-- a product and the number that it was taken from both fit
abbrev pub BothFit : Number → Number → Type 0
BothFit product difference = IsTrue (fits product) × IsTrue (fits difference)

-- ---- what the slack basis holds
-- the rows of the problem
abbrev pub slack_row : ℕ → List Row → ℕ → ℕ → Number
slack_row w rows i j = slack_cell w (row_of rows i).terms (row_of rows i).bound false j

-- the columns of each row's terms stand before the constant's
abbrev pub TermsBelow : ℕ → List Row → Type 0
TermsBelow w rows = (i : ℕ) → i < length rows → EachColumn (λ c. c + 1 < w) (row_of rows i).terms

-- every cell of a table for the problem is 0
abbrev pub IsBlankFor : Problem → List Number → Type 0
IsBlankFor p xs = AreCells xs (length p.rows + 1) (length p.boxes + 1) (λ i j. whole 0)

-- every cell is that of the problem's slack basis
abbrev pub HoldsStart : Problem → List Number → Type 0
HoldsStart p xs = AreCells xs (length p.rows + 1) (length p.boxes + 1) (start (linear_program p)).cell

-- ---- what is read off the cost row
-- the negated cost cell of each row's slack, all columns counted
abbrev pub AreNegatedCosts : List Number → List ℕ → ℕ → List Number → Type 0
AreNegatedCosts cells outside m ws = (k : ℕ) → k < m → number_at ws k ≡ negated_cost cells outside m (length outside) k

-- where the variable u is a slack, with n columns, the number of its row is x
abbrev pub HasForSlack : (n u : ℕ) → Number → List Number → Type 0
HasForSlack n u x ws = (k : ℕ) → k < length ws → u ≡ n + k → number_at ws k ≡ x

-- the numbers of all other rows stay
abbrev pub OtherSlacksStay : (n u : ℕ) → (ws ws' : List Number) → Type 0
OtherSlacksStay n u ws ws' = (k : ℕ) → u ≢ n + k → number_at ws' k ≡ number_at ws k
