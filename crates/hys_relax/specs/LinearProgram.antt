-- Linear programs as functions of places. A row is at most its bound, or equals it; the cost is to be made least.
-- The boxes are given apart, since each node has its own.
use Rattle.std.specs.Prelude.{ℕ, ◌<◌, [], length, Bool, false}
use Rattle.std.proofs.Common.{get_or}
use Rattle.hys_number.specs.Number.{Number}
use Rattle.hys_number.specs.Ops.{◌+ₙ◌, ◌*ₙ◌, whole}
use Rattle.hys_number.specs.Sums.{sum_to}
use Rattle.hys_lin.specs.Sums.{Assignment, compared}
use Rattle.hys_lin.specs.Scaled.{coefficient}
use Rattle.hys_lin.specs.declared.form.Row.{Row}
use Rattle.hys_lin.specs.declared.problem.Problem.{Problem}

pub record LinearProgram : Type 0 where
  pub columns : ℕ
  pub rows : ℕ
  -- by row and column
  pub factor : ℕ → ℕ → Number
  pub bound : ℕ → Number
  pub equation : ℕ → Bool
  pub cost : ℕ → Number
  pub constant : Number

abbrev pub row_at : Problem → ℕ → Row
row_at p i = get_or p.rows i (record { terms = []; bound = whole 0; eq = false })

-- the factor of column j in row i
abbrev pub factor_at : Problem → ℕ → ℕ → Number
factor_at p i j = coefficient (row_at p i).terms j

-- the linear program of a problem: its rows and its cost, without the demand that branch columns be 0 or 1
abbrev pub linear_program : Problem → LinearProgram
linear_program p = record {
  columns = length p.boxes;
  rows = length p.rows;
  factor = factor_at p;
  bound = λ i. (row_at p i).bound;
  equation = λ i. (row_at p i).eq;
  cost = coefficient p.cost.terms;
  constant = p.cost.constant;
}

-- the sum of row i
abbrev pub row_sum : LinearProgram → ℕ → Assignment → Number
row_sum P i x = sum_to P.columns (λ j. P.factor i j *ₙ x j)

abbrev pub cost_of : LinearProgram → Assignment → Number
cost_of P x = P.constant +ₙ sum_to P.columns (λ j. P.cost j *ₙ x j)

-- every row holds
abbrev pub Meets : LinearProgram → Assignment → Type 0
Meets P x = (i : ℕ) → i < P.rows → compared (P.equation i) (row_sum P i x) (P.bound i)

-- the same rows with cost 0
abbrev pub costless_program : LinearProgram → LinearProgram
costless_program P = record P { cost = λ j. whole 0; constant = whole 0 }
