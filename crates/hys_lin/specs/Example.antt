-- A small problem: x + 2y is at most 3 and the cost y - z, with x and z in 0 to 1 and y in 0 to 4.
use Rattle.std.specs.Prelude.{ℕ, List, [], ◌∷◌, false}
use Rattle.hys_number.specs.Number.{Number}
use Rattle.hys_number.specs.Ops.{whole, neg}
use Rattle.hys_lin.specs.declared.form.Interval.{Interval}
use Rattle.hys_lin.specs.declared.form.Term.{Term}
use Rattle.hys_lin.specs.declared.problem.Problem.{Problem}

abbrev pub up_to : ℕ → Interval
up_to n = record { low = whole 0; high = whole n }

abbrev pub term : ℕ → Number → Term
term c a = record { column = c; factor = a }

-- the problem with these columns to be branched
abbrev pub branching : List ℕ → Problem
branching columns = record {
  boxes = up_to 1 ∷ up_to 4 ∷ up_to 1 ∷ [];
  rows = record { terms = term 0 (whole 1) ∷ term 1 (whole 2) ∷ []; bound = whole 3; eq = false } ∷ [];
  cost = record { terms = term 1 (whole 1) ∷ term 2 (neg (whole 1)) ∷ []; constant = whole 0 };
  branch = columns;
}
