-- The column that enters the basis, as the code finds it.
use Rattle.std.specs.Prelude.{◌≡◌, ℕ, suc, ◌<◌, Option, Some, None}
use Rattle.std.specs.Ordering.{MatchOrdering}
use Rattle.std.specs.declared.cmp.Ordering.{Ordering}
use Rattle.hys_number.specs.Number.{Number}
use Rattle.hys_number.specs.Ops.{◌<ₙ◌}
use Rattle.hys_relax.specs.Node.{Boxes}
use Rattle.hys_relax.specs.LinearProgram.{LinearProgram}
use Rattle.hys_simplex.specs.Tableau.{Tableau}
use Rattle.hys_simplex.specs.Status.{Rises}
use Rattle.hys_simplex.specs.Rule.{MayEnter, ratio, IsEntering}

-- the order of the first number to the second
abbrev pub IsOrderOf : Number → Number → Ordering → Type 0
IsOrderOf a b order = MatchOrdering order (a <ₙ b) (a ≡ b) (b <ₙ a)

-- the raised ratio of column j is below that of column c
abbrev pub IsLess : LinearProgram → Tableau → ℕ → Number → ℕ → ℕ → Type 0
IsLess P T r side j c = Rises (suc P.columns) (ratio P T r side j) (ratio P T r side c)

-- of the columns below n the one that enters; none where none may
abbrev pub IsBestBelow : LinearProgram → Boxes → Tableau → ℕ → Number → ℕ → Option ℕ → Type 0
IsBestBelow P B T r side n None = (j : ℕ) → j < n → ¬ (MayEnter P B T r side j)
IsBestBelow P B T r side n (Some c) =
    (c < n) × MayEnter P B T r side c × ((j : ℕ) → j < n → MayEnter P B T r side j → ¬ (IsLess P T r side j c))

-- the column that enters, or none may
abbrev pub IsPicked : LinearProgram → Boxes → Tableau → ℕ → Number → Option ℕ → Type 0
IsPicked P B T r side None = (j : ℕ) → j < P.columns → ¬ (MayEnter P B T r side j)
IsPicked P B T r side (Some c) = IsEntering P B T r side c
