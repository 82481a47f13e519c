-- The rule over what the code has: a problem, a list with a box for each column, and a table. The side that a basic
-- value is off its range is the one that `under` stands for.
use Rattle.std.specs.Prelude.{ℕ, Bool, List, Option}
use Rattle.std.specs.declared.cmp.Ordering.{Ordering}
use Rattle.hys_number.specs.Number.{Number}
use Rattle.hys_lin.specs.Ranges.{box_at}
use Rattle.hys_lin.specs.declared.form.Interval.{Interval}
use Rattle.hys_lin.specs.declared.lost.Lost.{Lost}
use Rattle.hys_lin.specs.declared.problem.Problem.{Problem}
use Rattle.hys_relax.specs.LinearProgram.{linear_program}
use Rattle.hys_simplex.specs.Tableau.{row_multiplier}
use Rattle.hys_simplex.specs.Status.{basic_value, status_value}
use Rattle.hys_simplex.specs.Rule.{IsLeaving, IsBlocked, MayEnter, ratio}
use Rattle.hys_simplex.specs.Unfit.{value_operations}
use Rattle.hys_tab.specs.Table.{Table, tableau_of}
use Rattle.hys_dual.specs.Choosing.{IsRowUnfit}
use Rattle.hys_dual.specs.Enter.{IsLess, IsBestBelow, IsPicked, IsOrderOf}
use Rattle.hys_dual.specs.Ranging.{side_of}
use Rattle.hys_dual.specs.Standing.{ends_of}
use Rattle.hys_dual.specs.declared.end.End.{End}
use Rattle.hys_dual.specs.declared.off_range.OffRange.{OffRange}

-- ---- the status
-- the ends of all columns
abbrev pub ends_in : Problem → List Interval → Table → List End
ends_in p boxes t = ends_of (linear_program p) (box_at boxes) (tableau_of t)

-- the basic value of a row, and its operations
abbrev pub basic_value_in : Problem → List Interval → Table → ℕ → Number
basic_value_in p boxes t row = basic_value (linear_program p) (box_at boxes) (tableau_of t) row

abbrev pub value_operations_in : Problem → List Interval → Table → ℕ → List Lost
value_operations_in p boxes t row = value_operations (linear_program p) (box_at boxes) (tableau_of t) row

-- a product or partial sum of the row's basic value doesn't fit
abbrev pub IsRowUnfitIn : Problem → List Interval → Table → ℕ → Type 0
IsRowUnfitIn p boxes t row = IsRowUnfit (linear_program p) (box_at boxes) (tableau_of t) row

-- the value of a variable
abbrev pub status_value_in : Problem → List Interval → Table → ℕ → Number
status_value_in p boxes t variable = status_value (linear_program p) (box_at boxes) (tableau_of t) variable

-- the multiplier of a slack that is read off the row
abbrev pub row_multiplier_in : Problem → Table → ℕ → Bool → ℕ → Number
row_multiplier_in p t row under slack = row_multiplier (linear_program p) (tableau_of t) row (side_of under) slack

-- ---- the row that leaves
-- the row is the one that leaves, off its range on this side and by this end
abbrev pub IsLeavingIn : Problem → List Interval → Table → OffRange → Type 0
IsLeavingIn p boxes t off =
    IsLeaving (linear_program p) (box_at boxes) (tableau_of t) off.row (side_of off.under) off.near

-- and no column may enter for it
abbrev pub IsBlockedIn : Problem → List Interval → Table → OffRange → Type 0
IsBlockedIn p boxes t off =
    IsBlocked (linear_program p) (box_at boxes) (tableau_of t) off.row (side_of off.under) off.near

-- ---- the column that enters
-- the column may enter for the row
abbrev pub MayEnterIn : Problem → List Interval → Table → ℕ → Bool → ℕ → Type 0
MayEnterIn p boxes t row under column =
    MayEnter (linear_program p) (box_at boxes) (tableau_of t) row (side_of under) column

-- the raised ratio of a column in a place
abbrev pub ratio_in : Problem → Table → ℕ → Bool → ℕ → ℕ → Number
ratio_in p t row under column place = ratio (linear_program p) (tableau_of t) row (side_of under) column place

-- the order of the raised ratios of two columns in a place
abbrev pub IsRatioOrderIn : Problem → Table → ℕ → Bool → (first second place : ℕ) → Ordering → Type 0
IsRatioOrderIn p t row under first second place order =
    IsOrderOf (ratio_in p t row under first place) (ratio_in p t row under second place) order

-- the raised ratio of the first column is below that of the second
abbrev pub IsLessIn : Problem → Table → ℕ → Bool → (first second : ℕ) → Type 0
IsLessIn p t row under first second = IsLess (linear_program p) (tableau_of t) row (side_of under) first second

-- of the columns below n the one that enters; none where none may
abbrev pub IsBestIn : Problem → List Interval → Table → ℕ → Bool → ℕ → Option ℕ → Type 0
IsBestIn p boxes t row under n best =
    IsBestBelow (linear_program p) (box_at boxes) (tableau_of t) row (side_of under) n best

-- the column that enters; none where none may
abbrev pub IsPickedIn : Problem → List Interval → Table → ℕ → Bool → Option ℕ → Type 0
IsPickedIn p boxes t row under picked =
    IsPicked (linear_program p) (box_at boxes) (tableau_of t) row (side_of under) picked
