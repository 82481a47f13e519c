-- Statuses of the dual simplex method with bounds (Lemke 1954, Wagner 1958) and raised costs: the lexicographic rule
-- of Dantzig, Orden and Wolfe (1955), by which no status comes twice. The cost of column j is thought of as raised
-- by e(j), where e(0) is far above e(1) and so on, and all are above 0 and below every number above 0.
use Rattle.std.specs.Prelude.{◌≡◌, ℕ, zero, suc, ◌+◌, ◌-◌, ◌<◌, if◌then◌else◌, Bool, true, false, Option, Some, None, List, [], ◌∷◌, ◌++◌, ltb, ℤ, pos, negsuc}
use Rattle.hys_number.specs.Number.{Number}
use Rattle.hys_number.specs.Ops.{◌+ₙ◌, ◌*ₙ◌, ◌-ₙ◌, neg, ◌≤ₙ◌, ◌<ₙ◌, whole}
use Rattle.hys_number.specs.Sums.{sum_to}
use Rattle.hys_relax.specs.Node.{Boxes}
use Rattle.hys_relax.specs.LinearProgram.{LinearProgram}
use Rattle.hys_simplex.specs.Tableau.{Tableau, unit}

-- ---- raised numbers
-- A raised number has a number in each of N places, each far above the next. It is positive where the first that
-- isn't 0 is above 0.
pub record IsPositive (N : ℕ) (a : ℕ → Number) : Type 0 where
  pub place : ℕ
  pub within : place < N
  pub before : (j : ℕ) → j < place → a j ≡ whole 0
  pub above : whole 0 <ₙ a place

abbrev pub IsNull : ℕ → (ℕ → Number) → Type 0
IsNull N a = (j : ℕ) → j < N → a j ≡ whole 0

-- b is above a
abbrev pub Rises : ℕ → (ℕ → Number) → (ℕ → Number) → Type 0
Rises N a b = IsPositive N (λ t. b t -ₙ a t)

-- the test of being positive
abbrev pub first_sign : ℤ → Bool → Bool
first_sign (pos zero) rest = rest
first_sign (pos (suc n)) rest = true
first_sign (negsuc n) rest = false

abbrev pub is_positive : ℕ → (ℕ → Number) → Bool
is_positive zero a = false
is_positive (suc n) a = first_sign (a 0).num (is_positive n (λ t. a (suc t)))

-- ---- raised costs
-- how the variable u moves where the one in column j grows by 1 and the others outside stand
abbrev pub edge : Tableau → ℕ → ℕ → Number
edge T j u = unit (T.outside j) u -ₙ sum_to (suc T.rows) (λ i. unit (T.basic i) u *ₙ T.cell i j)

-- the places of a raised number: the cost, then the columns in order
abbrev pub place_var : LinearProgram → ℕ → ℕ
place_var P zero = P.columns + P.rows
place_var P (suc q) = q

-- the raised cost cell of column j: place 0 has its cell in the cost row, place q + 1 that in the row where column q
-- is basic, -1 where column q stands in column j itself, else 0
abbrev pub raised : LinearProgram → Tableau → ℕ → ℕ → Number
raised P T j t = neg (edge T j (place_var P t))

abbrev pub is_raised_above : LinearProgram → Tableau → ℕ → Bool
is_raised_above P T j = is_positive (suc P.columns) (raised P T j)

-- ---- the ranges of variables
-- the least number of a variable: the low end of a column's box, 0 of a slack
abbrev pub lower : LinearProgram → Boxes → ℕ → Number
lower P B u = if ltb u P.columns then (B u).low else whole 0

-- the greatest number, where there is one: the high end of a column's box, 0 of the slack of an equation
abbrev pub upper : LinearProgram → Boxes → ℕ → Option Number
upper P B u = if ltb u P.columns then Some (B u).high else (if P.equation (u - P.columns) then Some (whole 0) else None)

abbrev pub at_most : Number → Option Number → Type 0
at_most x None = Unit {0}
at_most x (Some h) = x ≤ₙ h

-- the number is in the variable's range
pub record InRange (P : LinearProgram) (B : Boxes) (u : ℕ) (x : Number) : Type 0 where
  pub low : lower P B u ≤ₙ x
  pub high : at_most x (upper P B u)

-- the number is off the range: below it (side 1) or above it (side -1), and `near` is the end that it is off
pub data IsOff (P : LinearProgram) (B : Boxes) (u : ℕ) (x side near : Number) : Type 0 where
  under : side ≡ whole 1 → near ≡ lower P B u → x <ₙ near → IsOff P B u x side near
  over : side ≡ neg (whole 1) → upper P B u ≡ Some near → near <ₙ x → IsOff P B u x side near

-- ---- statuses
abbrev pub end_or : Option Number → Number → Number
end_or None low = low
end_or (Some high) low = high

-- the value of the variable outside in column j: its upper end where its raised cost cell is above 0, else its lower
abbrev pub end_value : LinearProgram → Boxes → Tableau → ℕ → Number
end_value P B T j = if is_raised_above P T j then end_or (upper P B (T.outside j)) (lower P B (T.outside j)) else lower P B (T.outside j)

-- the value of the basic variable of row i: the row's constant minus cells times values; of the cost row the cost
abbrev pub basic_value : LinearProgram → Boxes → Tableau → ℕ → Number
basic_value P B T i = T.cell i T.columns -ₙ sum_to T.columns (λ j. T.cell i j *ₙ end_value P B T j)

-- the value of each variable in the status
abbrev pub status_value : LinearProgram → Boxes → Tableau → ℕ → Number
status_value P B T u =
    sum_to T.columns (λ j. unit (T.outside j) u *ₙ end_value P B T j)
    +ₙ sum_to (suc T.rows) (λ i. unit (T.basic i) u *ₙ basic_value P B T i)

-- the numbers of the first n places
abbrev pub values_to : ℕ → (ℕ → Number) → List Number
values_to zero f = []
values_to (suc n) f = values_to n f ++ f n ∷ []

-- the point of the status: the values of the columns
abbrev pub status_point : LinearProgram → Boxes → Tableau → List Number
status_point P B T = values_to P.columns (status_value P B T)

-- every basic value is in its range
abbrev pub AllInside : LinearProgram → Boxes → Tableau → Type 0
AllInside P B T = (i : ℕ) → i < P.rows → InRange P B (T.basic i) (basic_value P B T i)

-- the raised multiplier of each row that is no equation is at least 0: the raised cost cell of its slack is below 0
abbrev pub IsDualFeasible : LinearProgram → Tableau → Type 0
IsDualFeasible P T = (j i : ℕ) → j < P.columns → i < P.rows → T.outside j ≡ P.columns + i → P.equation i ≡ false →
    IsPositive (suc P.columns) (λ t. neg (raised P T j t))

-- two tableaux whose statuses are the same: the same variable is basic in each row, and each column outside the basis
-- stands at the same end; a slack outside stands at 0
pub record IsSameStatus (P : LinearProgram) (T T' : Tableau) : Type 0 where
  pub basics : (i : ℕ) → i < P.rows → T.basic i ≡ T'.basic i
  pub ends : (j j' : ℕ) → j < P.columns → j' < P.columns → T.outside j < P.columns → T.outside j ≡ T'.outside j' →
      is_raised_above P T j ≡ is_raised_above P T' j'
