-- The operations of a computation in their order, and the first of them whose outcome doesn't fit.
use Rattle.std.specs.Prelude.{ℕ, List, [], ◌∷◌, Option, Some, None, cond}
use Rattle.hys_number.specs.Number.{Number}
use Rattle.hys_number.specs.Ops.{◌+ₙ◌, ◌-ₙ◌, ◌*ₙ◌, ◌/ₙ◌, whole, fits}
use Rattle.hys_lin.specs.declared.form.Term.{Term}
use Rattle.hys_lin.specs.declared.form.Affine.{Affine}
use Rattle.hys_lin.specs.declared.form.Row.{Row}
use Rattle.hys_lin.specs.declared.lost.Lost.{Lost}
use Rattle.hys_lin.specs.declared.lost.Op.TheVariants.{Add, Sub, Mul, Div}
use Rattle.hys_lin.specs.declared.lost.Op.{Op}

abbrev pub result_of : Op → Number → Number → Number
result_of Add a b = a +ₙ b
result_of Sub a b = a -ₙ b
result_of Mul a b = a *ₙ b
result_of Div a b = a /ₙ b

-- the exact result of an operation
abbrev pub outcome : Lost → Number
outcome o = result_of o.op o.left o.right

-- the first of the operations whose outcome doesn't fit, if there is one
abbrev pub first_lost : List Lost → Option Lost
first_lost [] = None
first_lost (o ∷ os) = cond (fits (outcome o)) (first_lost os) (Some o)

abbrev pub times : Number → Number → Lost
times a b = record { op = Mul; left = a; right = b }

abbrev pub plus : Number → Number → Lost
plus a b = record { op = Add; left = a; right = b }

abbrev pub minus : Number → Number → Lost
minus a b = record { op = Sub; left = a; right = b }

abbrev pub over : Number → Number → Lost
over a b = record { op = Div; left = a; right = b }

-- of a sum that starts at a number: for each term its product with the number that `at` gives it, and then
-- that product after the sum of what stands before
abbrev pub summing : Number → List Term → (Term → Number) → List Lost
summing start [] at = []
summing start (t ∷ ts) at =
    times t.factor (at t) ∷ plus start (t.factor *ₙ at t) ∷ summing (start +ₙ t.factor *ₙ at t) ts at

-- of the value of a form, from its constant, and of the sum of a row's terms, from 0
abbrev pub valuing : Affine → (ℕ → Number) → List Lost
valuing f v = summing f.constant f.terms (λ t. v t.column)

abbrev pub row_summing : Row → (ℕ → Number) → List Lost
row_summing r v = summing (whole 0) r.terms (λ t. v t.column)

-- the sum of factor times number over the terms, with the number that `at` gives to a term
abbrev pub sum_by : List Term → (Term → Number) → Number
sum_by [] at = whole 0
sum_by (t ∷ ts) at = t.factor *ₙ at t +ₙ sum_by ts at
