-- The sums that the operations of a bound make are the bound.
use Rattle.std.proofs.Common.{◌≡◌, ℕ, ◌<◌, ◌∙◌, ap, ap₂, List, [], ◌∷◌, length}
use Rattle.hys_number.specs.Number.{Number}
use Rattle.hys_number.specs.Ops.{◌+ₙ◌, ◌*ₙ◌, ◌-ₙ◌}
use Rattle.hys_number.specs.Sums.{sum_to}
use Rattle.hys_number.proofs.Sums.{sum_to-same}
use Rattle.hys_lin.specs.Sums.{Assignment, EachColumn}
use Rattle.hys_lin.specs.Operations.{sum_by}
use Rattle.hys_lin.specs.declared.problem.Problem.{Problem}
use Rattle.hys_lin.proofs.Summing.{sum_by-columns}
use Rattle.hys_relax.specs.Node.{Boxes}
use Rattle.hys_relax.specs.LinearProgram.{linear_program, row_at, factor_at}
use Rattle.hys_relax.specs.Bound.{weights, multiplier, AreMultipliers, AreLawful, reduced_cost, reduced_constant, least_product, bound_of}
use Rattle.hys_relax.specs.BoundSum.{summed_coefficient, summed_constant, summed_ends}
use Rattle.hys_relax.proofs.Dense.{dense_sum}

rows_there : (p : Problem) (pairs : List (ℕ × Number)) → AreLawful p pairs → EachColumn (λ c. c < length p.rows) (weights pairs)
rows_there p [] h = tt
rows_there p (pair ∷ pairs) h = (h.0.0, rows_there p pairs h.1)

pub by_rows : (p : Problem) (pairs : List (ℕ × Number)) → AreMultipliers pairs → AreLawful p pairs → (f : Assignment) → sum_by (weights pairs) (λ t. f t.column) ≡ sum_to (length p.rows) (λ i. multiplier pairs i *ₙ f i)
by_rows p pairs m h f = sum_by-columns (weights pairs) f ∙ dense_sum (length p.rows) (weights pairs) f m (rows_there p pairs h)

pub coefficient_is : (p : Problem) (pairs : List (ℕ × Number)) → AreMultipliers pairs → AreLawful p pairs → (j : ℕ) → summed_coefficient p pairs j ≡ reduced_cost (linear_program p) (multiplier pairs) j
coefficient_is p pairs m h j = ap (λ z. (linear_program p).cost j +ₙ z) (by_rows p pairs m h (λ i. factor_at p i j))

pub constant_is : (p : Problem) (pairs : List (ℕ × Number)) → AreMultipliers pairs → AreLawful p pairs → summed_constant p pairs ≡ reduced_constant (linear_program p) (multiplier pairs)
constant_is p pairs m h = ap (λ z. p.cost.constant -ₙ z) (by_rows p pairs m h (λ i. (row_at p i).bound))

-- what the last sum comes to is the bound
pub ends_are : (p : Problem) (B : Boxes) (pairs : List (ℕ × Number)) → AreMultipliers pairs → AreLawful p pairs →
    summed_ends (summed_constant p pairs) (summed_coefficient p pairs) B (length p.boxes) ≡ bound_of (linear_program p) B (multiplier pairs)
ends_are p B pairs m h = ap₂ ◌+ₙ◌ (constant_is p pairs m h)
    (sum_to-same (length p.boxes) (λ j. least_product (summed_coefficient p pairs j) (B j)) (λ j. least_product (reduced_cost (linear_program p) (multiplier pairs) j) (B j)) (λ j l. ap (λ z. least_product z (B j)) (coefficient_is p pairs m h j)))
