-- The coefficients of a bound's sum as a list.
use Rattle.std.specs.Prelude.{◌≡◌, ℕ, ◌<◌, List, [], ◌∷◌, length, true, None}
use Rattle.hys_number.specs.Number.{Number}
use Rattle.hys_number.specs.Ops.{◌+ₙ◌, ◌*ₙ◌, fits}
use Rattle.hys_lin.specs.Operations.{first_lost, times, plus}
use Rattle.hys_lin.specs.Scaled.{coefficient}
use Rattle.hys_lin.specs.Sums.{at}
use Rattle.hys_lin.specs.declared.form.Term.{Term}
use Rattle.hys_lin.specs.declared.lost.Lost.{Lost}
use Rattle.hys_lin.specs.declared.problem.Problem.{Problem}
use Rattle.hys_relax.specs.BoundSum.{coefficient_operations, summed_coefficient}

-- the list has the coefficient of each column
pub record AreCoefficients (p : Problem) (pairs : List (ℕ × Number)) (ds : List Number) : Type 0 where
  pub long : length ds ≡ length p.boxes
  pub each : (j : ℕ) → j < length p.boxes → at ds j ≡ summed_coefficient p pairs j

-- every number of the list fits
abbrev pub AllFit : List Number → Type 0
AllFit ds = (j : ℕ) → fits (at ds j) ≡ true

-- the operations that add a product to the sum s
abbrev pub added : Number → Number → Number → List Lost
added by a s = times by a ∷ plus s (by *ₙ a) ∷ []

-- a multiple of the terms was added, column by column, and no operation was lost
pub record IsRowAdded (by : Number) (ts : List Term) (old new : List Number) : Type 0 where
  pub fit : AllFit new
  pub value : (j : ℕ) → at new j ≡ at old j +ₙ by *ₙ coefficient ts j
  pub lost : (j : ℕ) → None ≡ first_lost (added by (coefficient ts j) (at old j))

-- no operation of any column is lost, and the list has the coefficients
pub record AreGathered (p : Problem) (pairs : List (ℕ × Number)) (ds : List Number) : Type 0 where
  pub coefficients : AreCoefficients p pairs ds
  pub lost : (j : ℕ) → first_lost (coefficient_operations p pairs j) ≡ None
