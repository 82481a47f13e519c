-- A bound's sum over the lists that the code has: its boxes, its coefficients and what its operations lose.
use Rattle.std.specs.Prelude.{ℕ, List, length, Option}
use Rattle.hys_number.specs.Number.{Number}
use Rattle.hys_lin.specs.Operations.{first_lost}
use Rattle.hys_lin.specs.Ranges.{box_at}
use Rattle.hys_lin.specs.Sums.{at}
use Rattle.hys_lin.specs.declared.form.Interval.{Interval}
use Rattle.hys_lin.specs.declared.lost.Lost.{Lost}
use Rattle.hys_lin.specs.declared.problem.Problem.{Problem}
use Rattle.hys_relax.specs.BoundSum.{joined_to, coefficient_operations, constant_operations, end_operations}
use Rattle.hys_relax.specs.BoundSum.{summed_coefficient, summed_constant, summed_ends}
use Rattle.hys_lagrange.specs.Listed.{listed}

-- ---- the coefficients
-- the coefficients of all columns
abbrev pub summed_coefficients : Problem → List (ℕ × Number) → List Number
summed_coefficients p pairs = listed (length p.boxes) (summed_coefficient p pairs)

-- the operations of the coefficients, column by column
abbrev pub column_operations : Problem → List (ℕ × Number) → List Lost
column_operations p pairs = joined_to (length p.boxes) (coefficient_operations p pairs)

-- the first operation of a column's coefficient whose outcome doesn't fit
abbrev pub coefficient_lost : Problem → List (ℕ × Number) → ℕ → Option Lost
coefficient_lost p pairs column = first_lost (coefficient_operations p pairs column)

-- ---- the constant
-- the first operation of the constant whose outcome doesn't fit
abbrev pub constant_lost : Problem → List (ℕ × Number) → Option Lost
constant_lost p pairs = first_lost (constant_operations p pairs)

-- ---- the ends
-- from `start` the product of each coefficient of a list with the end of its box that makes it less
abbrev pub summed_over : Number → List Number → List Interval → Number
summed_over start ds boxes = summed_ends start (at ds) (box_at boxes) (length boxes)

-- the first of these products and partial sums that doesn't fit
abbrev pub lost_over : Number → List Number → List Interval → Option Lost
lost_over start ds boxes = first_lost (end_operations start (at ds) (box_at boxes) (length boxes))

-- ---- the bound
-- what the operations of a bound's sum come to
abbrev pub summed_bound : Problem → List Interval → List (ℕ × Number) → Number
summed_bound p boxes pairs =
    summed_ends (summed_constant p pairs) (summed_coefficient p pairs) (box_at boxes) (length p.boxes)
