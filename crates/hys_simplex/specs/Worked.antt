-- Ruled paths of the worked problem.
use Rattle.std.specs.Prelude.{ℕ, ◌+◌, ◌*◌, List, [], ◌∷◌, true, false}
use Rattle.hys_number.specs.Number.{Number}
use Rattle.hys_number.specs.Ops.{whole, neg, ◌/ₙ◌}
use Rattle.hys_lin.specs.declared.form.Term.{Term}
use Rattle.hys_lin.specs.declared.form.Row.{Row}
use Rattle.hys_lin.specs.declared.form.Interval.{Interval}
use Rattle.hys_lin.specs.declared.problem.Problem.{Problem}
use Rattle.hys_relax.specs.Node.{unit_box}
use Rattle.hys_relax.specs.Worked.{worked, fix, term}
use Rattle.hys_relax.specs.LinearProgram.{LinearProgram, linear_program}
use Rattle.hys_relax.specs.declared.fixing.Fixing.{Fixing}

abbrev pub program : LinearProgram
program = linear_program worked

abbrev pub root_path : List (ℕ × ℕ)
root_path = (1, 2) ∷ (0, 3) ∷ (1, 1) ∷ []

-- the nodes with the first input at 0, and at 1
abbrev pub without : List Fixing
without = fix 1 false ∷ []

abbrev pub with_first : List Fixing
with_first = fix 1 true ∷ []

-- ---- a problem on which a path that went back up would end below the plain bound
abbrev pub box : Number → Number → Interval
box a b = record { low = a; high = b }

abbrev pub at_most_row : List Term → Number → Row
at_most_row ts b = record { terms = ts; bound = b; eq = false }

abbrev pub upward : Problem
upward = record {
  boxes = box (neg (whole 2)) (whole 0) ∷ unit_box ∷ unit_box ∷ unit_box ∷ box (neg (whole 3)) (whole 0) ∷ unit_box ∷ [];
  rows = at_most_row (term 1 (neg (whole 1)) ∷ term 2 (neg (whole 3)) ∷ term 3 (whole 1) ∷ []) (whole 0)
      ∷ at_most_row (term 0 (neg (whole 3)) ∷ term 1 (whole 2) ∷ term 2 (neg (whole 2)) ∷ term 5 (whole 2) ∷ []) (whole 3 /ₙ whole 2)
      ∷ at_most_row (term 2 (whole 2) ∷ term 3 (neg (whole 3)) ∷ term 4 (whole 3) ∷ []) (neg (whole 1 /ₙ whole 2)) ∷ [];
  cost = record { terms = term 1 (neg (whole 1)) ∷ term 3 (neg (whole 3)) ∷ term 4 (neg (whole 2)) ∷ term 5 (neg (whole 1)) ∷ []; constant = whole 0 };
  branch = 1 ∷ 2 ∷ 3 ∷ [];
}

abbrev pub upward_node : List Fixing
upward_node = fix 1 false ∷ fix 2 false ∷ fix 3 true ∷ []

-- four pivots of the rule over the boxes of depth 2, and a fifth over the root's
abbrev pub four : List (ℕ × ℕ)
four = (0, 3) ∷ (1, 0) ∷ (1, 5) ∷ (2, 4) ∷ []

abbrev pub five : List (ℕ × ℕ)
five = (0, 3) ∷ (1, 0) ∷ (1, 5) ∷ (2, 4) ∷ (0, 2) ∷ []

-- ---- a problem that meets a number that doesn't fit: a state that decays by the factor 0.123456789, over three steps
abbrev pub decay : Number
decay = neg (whole 123456789 /ₙ whole 1000000000)

abbrev pub step_row : ℕ → Row
step_row t = record { terms = term (2 * t) decay ∷ term (2 * t + 1) (neg (whole 1)) ∷ term (2 * t + 2) (whole 1) ∷ []; bound = whole 0; eq = true }

abbrev pub wide : Interval
wide = box (neg (whole 10)) (whole 10)

abbrev pub signed : Interval
signed = box (neg (whole 1)) (whole 1)

abbrev pub decaying : Problem
decaying = record {
  boxes = box (whole 1) (whole 1) ∷ signed ∷ wide ∷ signed ∷ wide ∷ signed ∷ wide ∷ [];
  rows = step_row 0 ∷ step_row 1 ∷ step_row 2 ∷ [];
  cost = record { terms = term 6 (whole 1) ∷ []; constant = whole 0 };
  branch = [];
}

-- ---- a problem whose first basic value doesn't fit: three times a column that stands at its high end
abbrev pub tripled : Problem
tripled = record {
  boxes = box (whole 0) (whole 9223372036854775807) ∷ [];
  rows = at_most_row (term 0 (whole 3) ∷ []) (whole 0) ∷ [];
  cost = record { terms = term 0 (neg (whole 1)) ∷ []; constant = whole 0 };
  branch = [];
}

-- ---- a problem with an equation whose slack has the least ratio, and yet never enters
abbrev pub equated : Problem
equated = record {
  boxes = unit_box ∷ unit_box ∷ [];
  rows = record { terms = term 0 (whole 2) ∷ term 1 (neg (whole 1)) ∷ []; bound = whole 1; eq = true }
      ∷ at_most_row (term 0 (neg (whole 1)) ∷ term 1 (neg (whole 1)) ∷ []) (neg (whole 1)) ∷ [];
  cost = record { terms = term 1 (whole 1) ∷ []; constant = whole 0 };
  branch = [];
}

-- ---- a row that can't be brought to its range; its sum would not fit if the cost counted in it
abbrev pub costly : Problem
costly = record {
  boxes = unit_box ∷ [];
  rows = at_most_row (term 0 (whole 1) ∷ []) (neg (whole 1)) ∷ [];
  cost = record { terms = term 0 (whole 9223372036854775807) ∷ []; constant = whole 0 };
  branch = [];
}

-- ---- three columns of 2^62 each: the sum of the first two doesn't fit, though the row's basic value does
abbrev pub doubled : Problem
doubled = record {
  boxes = box (whole 4611686018427387904) (whole 4611686018427387904) ∷ box (whole 4611686018427387904) (whole 4611686018427387904)
      ∷ box (whole 4611686018427387904) (whole 4611686018427387904) ∷ [];
  rows = at_most_row (term 0 (whole 1) ∷ term 1 (whole 1) ∷ term 2 (neg (whole 1)) ∷ []) (whole 4611686018427387904) ∷ [];
  cost = record { terms = []; constant = whole 0 };
  branch = [];
}

-- ---- a cost that doesn't fit, with no rows
abbrev pub dear : Problem
dear = record {
  boxes = box (whole 9223372036854775807) (whole 9223372036854775807) ∷ [];
  rows = [];
  cost = record { terms = term 0 (whole 3) ∷ []; constant = whole 0 };
  branch = [];
}

-- ---- a row that can't be brought to its range, and whose sum doesn't fit
abbrev pub sunk : Problem
sunk = record {
  boxes = box (whole 9223372036854775807) (whole 9223372036854775807) ∷ [];
  rows = at_most_row (term 0 (whole 3) ∷ []) (neg (whole 1)) ∷ [];
  cost = record { terms = []; constant = whole 0 };
  branch = [];
}
