-- The bound of multipliers at a node.
use Rattle.std.specs.Prelude.{◌≡◌, ℕ, List, Option, Some, None}
use Rattle.hys_number.specs.Number.{Number}
use Rattle.hys_lin.specs.declared.problem.Problem.{Problem}
use Rattle.hys_relax.specs.Bound.{node_bound}
use Rattle.hys_relax.specs.BoundSum.{BoundFits}
use Rattle.hys_relax.specs.declared.fixing.Fixing.{Fixing}

-- the bound, where every number of its sum fits, or none, where one doesn't
abbrev pub IsBoundAt : Problem → List Fixing → List (ℕ × Number) → Option Number → Type 0
IsBoundAt p fixings pairs (Some z) = (z ≡ node_bound p fixings pairs) × BoundFits p fixings pairs
IsBoundAt p fixings pairs None = ¬ (BoundFits p fixings pairs)
