-- Solutions of a system, and the row at which testing one first meets a result that doesn't fit.
use Rattle.std.specs.Prelude.{◌≡◌, ℕ, ◌<◌, List, ◌∷◌, ◌++◌, length, Option, Some, None, HoldsAt}
use Rattle.std.specs.List.{AllByRecursion}
use Rattle.hys_number.specs.Number.{Number}
use Rattle.hys_number.specs.Ops.{whole}
use Rattle.hys_lin.specs.Sums.{at, Holds, HoldAll}
use Rattle.hys_lin.specs.Bits.{IsBit}
use Rattle.hys_lin.specs.Operations.{first_lost, summing}
use Rattle.hys_lin.specs.declared.form.Row.{Row}
use Rattle.hys_lin.specs.declared.lost.Lost.{Lost}
use Rattle.hys_sys.specs.declared.system.Kind2.{Kind2}
use Rattle.hys_sys.specs.declared.system.Kind2.TheVariants.{Real, Bool}
use Rattle.hys_sys.specs.declared.system.Column.{Column}
use Rattle.hys_sys.specs.declared.system.System.{System}

-- a number of the kind: of a Boolean column that is 0 or 1
abbrev pub IsOfKind : Kind2 → Number → Type 0
IsOfKind Real a = Unit {0}
IsOfKind Bool a = IsBit a

-- each column has a number of its kind
abbrev pub AreOfKinds : List Column → List Number → Type 0
AreOfKinds columns v = (i : ℕ) → i < length columns → HoldsAt (λ c. IsOfKind c.kind (at v i)) columns i

-- a number for each column, of its kind, with which every row holds
pub record Solution (S : System) (v : List Number) : Type 0 where
  pub long : length v ≡ length S.columns
  pub rows : HoldAll (at v) S.rows
  pub kinds : AreOfKinds S.columns v

-- the first product or partial sum of the row's terms that doesn't fit
abbrev pub loss : List Number → Row → Option Lost
loss v r = first_lost (summing (whole 0) r.terms (λ t. at v t.column))

-- the row holds, and every product and partial sum of it fits
pub record Passes (v : List Number) (r : Row) : Type 0 where
  pub holds : Holds (at v) r
  pub fits : loss v r ≡ None

-- a row loses the operation, and every row before it passes
pub record LostAt (rows : List Row) (v : List Number) (l : Lost) : Type 0 where
  pub before : List Row
  pub row : Row
  pub after : List Row
  pub split : rows ≡ before ++ row ∷ after
  pub pass : AllByRecursion (Passes v) before
  pub lost : loss v row ≡ Some l
