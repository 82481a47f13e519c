-- A table in memory, as contracts see it, and the tableau that it stands for.
use Rattle.std.specs.Prelude.{◌≡◌, ℕ, ◌+◌, ◌*◌, ◌^◌, ◌-◌, ◌<◌, ◌==◌, if◌then◌else◌, ltb, All, List, length, refl}
use Rattle.std.specs.List.{slice_index_or}
use Rattle.std.specs.Coded.{Coded, code_by, coded×, coded_list, coded_ℕ}
use Rattle.hys_number.specs.Number.{Number}
use Rattle.hys_number.specs.Ops.{neg}
use Rattle.hys_frac.specs.Frac.{number_code}
use Rattle.hys_relax.specs.declared.range.Var.{Var}
use Rattle.hys_relax.specs.declared.range.Var.TheVariants.{Column, Slack}
use Rattle.hys_simplex.specs.Tableau.{Tableau, coef, IsPlaced}
use Rattle.hys_simplex.specs.Unfit.{pairs_to}
use Rattle.hys_tab.specs.Cells.{cell_at, AllFit}

pub record Table : Type 0 where
  -- the cells row by row: those of the rows, then those of the cost; in each the columns, then the constant
  pub cells : List Number
  -- the number of the variable that is basic in each row
  pub basics : List ℕ
  -- the number of the variable that stands in each column
  pub outsides : List ℕ

-- a table is stored as its three lists
abbrev pub table_code : Coded Table
table_code = code_by (List Number × (List ℕ × List ℕ))
    (coded× (coded_list number_code) (coded× (coded_list coded_ℕ) (coded_list coded_ℕ)))
    (λ t. (t.cells, (t.basics, t.outsides)))
    (λ p. record { cells = p.0; basics = p.1.0; outsides = p.1.1 })
    (λ _. refl)

-- the tableau; the cost is basic in the last row
abbrev pub tableau_of : Table → Tableau
tableau_of t = record {
  columns = length t.outsides;
  rows = length t.basics;
  cell = cell_at t.cells (length t.outsides + 1);
  basic = λ i. if i == length t.basics then length t.outsides + length t.basics else slice_index_or t.basics i 0;
  outside = λ j. slice_index_or t.outsides j 0;
}

-- the variable of a number, where there are n columns
abbrev pub variable_of : ℕ → ℕ → Var
variable_of n u = if ltb u n then Column u else Slack (u - n)

-- the cells of so many rows and columns and of the cost and the constants; the variables are those of these rows and
-- columns, and the numbers fit
pub record IsTable (t : Table) : Type 0 where
  pub shape : length t.cells ≡ (length t.basics + 1) * (length t.outsides + 1)
  pub few_rows : length t.basics < 2 ^ 32
  pub few_columns : length t.outsides < 2 ^ 32
  pub basics : All (λ u. u < length t.outsides + length t.basics) t.basics
  pub outsides : All (λ u. u < length t.outsides + length t.basics) t.outsides
  pub fit : AllFit t.cells (length t.basics + 1) (length t.outsides + 1)
  -- each variable stands in one row or in one column
  pub placed : IsPlaced (length t.outsides) (length t.basics) (tableau_of t)

-- the multipliers that are read off the cost row: the negated cost cells of the slacks, without those that are 0
abbrev pub multipliers_of : Tableau → List (ℕ × Number)
multipliers_of T = pairs_to T.rows (λ k. neg (coef T T.rows (T.columns + k)))
