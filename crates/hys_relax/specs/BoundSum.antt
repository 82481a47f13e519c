-- The operations of a bound's sum in their order. First each column: the cost's coefficient, and then for each
-- row the product of its multiplier with the coefficient there and the partial sum. Then the constant in the
-- same way, each product of multiplier and bound taken away. Last, from that constant, for each column the
-- product of its coefficient with the end that makes it less, and the partial sum.
use Rattle.std.specs.Prelude.{◌≡◌, ℕ, zero, suc, List, [], ◌∷◌, ◌++◌, length, Option, None, Bool, true, false, ℤ, pos, negsuc}
use Rattle.hys_number.specs.Number.{Number}
use Rattle.hys_number.specs.Ops.{◌+ₙ◌, ◌-ₙ◌, ◌*ₙ◌}
use Rattle.hys_number.specs.Sums.{sum_to}
use Rattle.hys_lin.specs.Scaled.{coefficient}
use Rattle.hys_lin.specs.Operations.{first_lost, times, plus, minus, summing, sum_by}
use Rattle.hys_lin.specs.declared.form.Term.{Term}
use Rattle.hys_lin.specs.declared.lost.Lost.{Lost}
use Rattle.hys_lin.specs.declared.problem.Problem.{Problem}
use Rattle.hys_relax.specs.Node.{Boxes, node_boxes}
use Rattle.hys_relax.specs.LinearProgram.{row_at, factor_at}
use Rattle.hys_relax.specs.Bound.{weights, lesser_end, least_product}
use Rattle.hys_relax.specs.declared.fixing.Fixing.{Fixing}

-- the number with this first part isn't 0
abbrev pub not_zero : ℤ → Bool
not_zero (pos zero) = false
not_zero (pos (suc n)) = true
not_zero (negsuc n) = true

-- lists for the places below n, one after the other
abbrev pub joined_to : {X : Type 0} → ℕ → (ℕ → List X) → List X
joined_to zero f = []
joined_to (suc n) f = joined_to n f ++ f n

-- for each term its product with the number that `at` gives it, and then that product taken away from what is left
abbrev pub subtracting : Number → List Term → (Term → Number) → List Lost
subtracting start [] at = []
subtracting start (t ∷ ts) at = times t.factor (at t) ∷ minus start (t.factor *ₙ at t) ∷ subtracting (start -ₙ t.factor *ₙ at t) ts at

-- the coefficient of column j: that of the cost and each multiplier times that of its row
abbrev pub summed_coefficient : Problem → List (ℕ × Number) → ℕ → Number
summed_coefficient p pairs j = coefficient p.cost.terms j +ₙ sum_by (weights pairs) (λ t. factor_at p t.column j)

abbrev pub coefficient_operations : Problem → List (ℕ × Number) → ℕ → List Lost
coefficient_operations p pairs j = summing (coefficient p.cost.terms j) (weights pairs) (λ t. factor_at p t.column j)

-- the constant: that of the cost without each multiplier times its row's bound
abbrev pub summed_constant : Problem → List (ℕ × Number) → Number
summed_constant p pairs = p.cost.constant -ₙ sum_by (weights pairs) (λ t. (row_at p t.column).bound)

abbrev pub constant_operations : Problem → List (ℕ × Number) → List Lost
constant_operations p pairs = subtracting p.cost.constant (weights pairs) (λ t. (row_at p t.column).bound)

-- from `start` the product of each coefficient with the end that makes it less
abbrev pub summed_ends : Number → (ℕ → Number) → Boxes → ℕ → Number
summed_ends start d B n = start +ₙ sum_to n (λ j. least_product (d j) (B j))

abbrev pub end_operations : Number → (ℕ → Number) → Boxes → ℕ → List Lost
end_operations start d B n = joined_to n (λ j. times (d j) (lesser_end (d j) (B j)) ∷ plus (summed_ends start d B j) (least_product (d j) (B j)) ∷ [])

-- all operations of the bound's sum
abbrev pub bound_operations : Problem → Boxes → List (ℕ × Number) → List Lost
bound_operations p B pairs =
    joined_to (length p.boxes) (coefficient_operations p pairs) ++ constant_operations p pairs
    ++ end_operations (summed_constant p pairs) (summed_coefficient p pairs) B (length p.boxes)

-- the first of them at a node whose outcome doesn't fit; with cost 0 it is that of the problem without its cost
abbrev pub bound_lost : Problem → List Fixing → List (ℕ × Number) → Option Lost
bound_lost p fixings pairs = first_lost (bound_operations p (node_boxes p fixings) pairs)

abbrev pub BoundFits : Problem → List Fixing → List (ℕ × Number) → Type 0
BoundFits p fixings pairs = bound_lost p fixings pairs ≡ None
