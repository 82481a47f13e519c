-- Multipliers of rows and the bound that they give: weak duality of linear programs with boxes. That no point
-- exists where the bound with cost 0 is above 0 is the easy half of Farkas' lemma (1902).
use Rattle.std.specs.Prelude.{◌≡◌, ℕ, ◌<◌, List, [], map, length, Bool, true, false}
use Rattle.std.specs.List.{AllByRecursion}
use Rattle.hys_number.specs.Number.{Number}
use Rattle.hys_number.specs.Ops.{◌+ₙ◌, ◌-ₙ◌, ◌*ₙ◌, ◌≤ₙ◌, whole}
use Rattle.hys_number.specs.Sums.{sum_to}
use Rattle.hys_lin.specs.Sums.{Assignment, AreTerms}
use Rattle.hys_lin.specs.Scaled.{coefficient}
use Rattle.hys_lin.specs.Ranges.{end_by_sign}
use Rattle.hys_lin.specs.declared.form.Term.{Term}
use Rattle.hys_lin.specs.declared.form.Interval.{Interval}
use Rattle.hys_lin.specs.declared.problem.Problem.{Problem}
use Rattle.hys_relax.specs.Node.{Boxes, Inside, node_boxes}
use Rattle.hys_relax.specs.LinearProgram.{LinearProgram, linear_program, row_sum, cost_of, row_at}
use Rattle.hys_relax.specs.declared.fixing.Fixing.{Fixing}

-- ---- multipliers
-- multipliers as terms over the rows
abbrev pub weights : List (ℕ × Number) → List Term
weights = map (λ pair. record { column = pair.0; factor = pair.1 })

-- the multiplier of row i, 0 where no pair names it
abbrev pub multiplier : List (ℕ × Number) → ℕ → Number
multiplier pairs = coefficient (weights pairs)

-- the rows rise strictly and no multiplier is 0
abbrev pub AreMultipliers : List (ℕ × Number) → Type 0
AreMultipliers pairs = AreTerms (weights pairs)

-- of a row that is no equation the multiplier is at least 0
abbrev pub SignHolds : Bool → Number → Type 0
SignHolds true y = Unit {0}
SignHolds false y = whole 0 ≤ₙ y

-- on each row that is no equation the multiplier is at least 0
abbrev pub IsSigned : LinearProgram → (ℕ → Number) → Type 0
IsSigned P y = (i : ℕ) → i < P.rows → SignHolds (P.equation i) (y i)

-- the row of the pair is there, and the sign holds
abbrev pub IsLawfulPair : Problem → ℕ × Number → Type 0
IsLawfulPair p pair = (pair.0 < length p.rows) × SignHolds (row_at p pair.0).eq pair.1

-- lawful multipliers: they name rows that are there, and on each row that is no equation they are at least 0
abbrev pub AreLawful : Problem → List (ℕ × Number) → Type 0
AreLawful p pairs = AllByRecursion (IsLawfulPair p) pairs

-- ---- the bound
-- the cost plus the sum over the rows of multiplier times (sum minus bound)
abbrev pub lagrangian : LinearProgram → (ℕ → Number) → Assignment → Number
lagrangian P y x = cost_of P x +ₙ sum_to P.rows (λ i. y i *ₙ (row_sum P i x -ₙ P.bound i))

-- z is the least value of f at the points inside the boxes of the first n columns
pub record IsLeastOver (n : ℕ) (B : Boxes) (f : Assignment → Number) (z : Number) : Type 0 where
  pub below : (x : Assignment) → Inside n B x → z ≤ₙ f x
  pub point : Assignment
  pub inside : Inside n B point
  pub attained : f point ≡ z

-- the factor of column j in the cost with the weighted rows, and the constant there
abbrev pub reduced_cost : LinearProgram → (ℕ → Number) → ℕ → Number
reduced_cost P y j = P.cost j +ₙ sum_to P.rows (λ i. y i *ₙ P.factor i j)

abbrev pub reduced_constant : LinearProgram → (ℕ → Number) → Number
reduced_constant P y = P.constant -ₙ sum_to P.rows (λ i. y i *ₙ P.bound i)

-- the end of a box that makes its product with d less, and that product
abbrev pub lesser_end : Number → Interval → Number
lesser_end d box = end_by_sign false d.num box

abbrev pub least_product : Number → Interval → Number
least_product d box = d *ₙ lesser_end d box

-- the bound of multipliers over boxes: the least value of the cost with the weighted rows
abbrev pub bound_of : LinearProgram → Boxes → (ℕ → Number) → Number
bound_of P B y = reduced_constant P y +ₙ sum_to P.columns (λ j. least_product (reduced_cost P y j) (B j))

-- the bound of multipliers at a node
abbrev pub node_bound : Problem → List Fixing → List (ℕ × Number) → Number
node_bound p fixings pairs = bound_of (linear_program p) (node_boxes p fixings) (multiplier pairs)

-- the same with cost 0
abbrev pub costless : Problem → Problem
costless p = record p { cost = record { terms = []; constant = whole 0 } }

-- the bound of no multipliers over the problem's boxes
abbrev pub plain_bound : Problem → Number
plain_bound p = node_bound p [] []
