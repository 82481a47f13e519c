-- Small problems: one without rows, and one that never has a relaxed point.
use Rattle.std.specs.Prelude.{[], ◌∷◌}
use Rattle.hys_number.specs.Ops.{whole, neg}
use Rattle.hys_lin.specs.declared.problem.Problem.{Problem}
use Rattle.hys_relax.specs.Node.{unit_box}
use Rattle.hys_relax.specs.Worked.{term}
use Rattle.hys_simplex.specs.Worked.{box, at_most_row}

-- the first column is dear below, the second above; the cost is least at -5
abbrev pub bare : Problem
bare = record {
  boxes = unit_box ∷ box (neg (whole 2)) (whole 3) ∷ [];
  rows = [];
  cost = record { terms = term 0 (neg (whole 1)) ∷ term 1 (whole 2) ∷ []; constant = whole 0 };
  branch = [];
}

-- a column between 0 and 1 is to be at most -1
abbrev pub barred : Problem
barred = record {
  boxes = unit_box ∷ [];
  rows = at_most_row (term 0 (whole 1) ∷ []) (neg (whole 1)) ∷ [];
  cost = record { terms = term 0 (whole 1) ∷ []; constant = whole 0 };
  branch = [];
}
