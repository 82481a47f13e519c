-- What a call says of a bound's sum.
use Rattle.std.specs.Prelude.{◌≡◌, List, ℕ, Result, Ok, Err, Some, None}
use Rattle.hys_number.specs.Number.{Number}
use Rattle.hys_lin.specs.declared.lost.Lost.{Lost}
use Rattle.hys_lin.specs.declared.problem.Problem.{Problem}
use Rattle.hys_relax.specs.Bound.{node_bound}
use Rattle.hys_relax.specs.BoundSum.{bound_lost}
use Rattle.hys_relax.specs.declared.fixing.Fixing.{Fixing}

-- the bound over the boxes of the fixings, or the first operation of its sum that is lost
abbrev pub IsBoundOr : Problem → List Fixing → List (ℕ × Number) → Result Number Lost → Type 0
IsBoundOr p fixings pairs (Ok b) = (b ≡ node_bound p fixings pairs) × (bound_lost p fixings pairs ≡ None)
IsBoundOr p fixings pairs (Err l) = bound_lost p fixings pairs ≡ Some l
