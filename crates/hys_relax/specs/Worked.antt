-- A worked problem. The columns are a state's start, two inputs that are 0 or 1, and the state's end; the start is
-- 0, and the cost is what is left of 0 without the end. Row 0 says that 3a + 2b is at most 4, row 1 that the end is
-- the start and 3a + 2b.
use Rattle.std.specs.Prelude.{ℕ, List, [], ◌∷◌, true, false, Bool}
use Rattle.hys_number.specs.Number.{Number}
use Rattle.hys_number.specs.Ops.{whole, neg}
use Rattle.hys_lin.specs.declared.form.Term.{Term}
use Rattle.hys_lin.specs.declared.problem.Problem.{Problem}
use Rattle.hys_relax.specs.Node.{unit_box, only}
use Rattle.hys_relax.specs.declared.fixing.Fixing.{Fixing}

abbrev pub term : ℕ → Number → Term
term c a = record { column = c; factor = a }

abbrev pub worked : Problem
worked = record {
  boxes = only (whole 0) ∷ unit_box ∷ unit_box ∷ record { low = whole 0; high = whole 10 } ∷ [];
  rows = record { terms = term 1 (whole 3) ∷ term 2 (whole 2) ∷ []; bound = whole 4; eq = false }
      ∷ record { terms = term 0 (neg (whole 1)) ∷ term 1 (neg (whole 3)) ∷ term 2 (neg (whole 2)) ∷ term 3 (whole 1) ∷ []; bound = whole 0; eq = true } ∷ [];
  cost = record { terms = term 3 (neg (whole 1)) ∷ []; constant = whole 0 };
  branch = 1 ∷ 2 ∷ [];
}

abbrev pub fix : ℕ → Bool → Fixing
fix c one = record { column = c; one = one }

-- multiplier 1 on the equation, on both rows, on the row of the demand
abbrev pub on_equation : List (ℕ × Number)
on_equation = (1, whole 1) ∷ []

abbrev pub on_both : List (ℕ × Number)
on_both = (0, whole 1) ∷ (1, whole 1) ∷ []

abbrev pub on_demand : List (ℕ × Number)
on_demand = (0, whole 1) ∷ []
