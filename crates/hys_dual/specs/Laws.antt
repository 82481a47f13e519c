-- What the laws of this crate say.
use Rattle.std.specs.Prelude.{◌≡◌, ℕ, ◌≤◌, List, length, take}
use Rattle.hys_number.specs.Number.{Number}
use Rattle.hys_number.specs.Ops.{◌≤ₙ◌}
use Rattle.hys_lin.specs.Problem.{IsProblem}
use Rattle.hys_lin.specs.declared.problem.Problem.{Problem}
use Rattle.hys_relax.specs.Node.{IsNode}
use Rattle.hys_relax.specs.LinearProgram.{linear_program}
use Rattle.hys_relax.specs.Bound.{node_bound, plain_bound}
use Rattle.hys_relax.specs.declared.fixing.Fixing.{Fixing}
use Rattle.hys_simplex.specs.Tableau.{Tableau, IsOf}
use Rattle.hys_simplex.specs.Unfit.{cost_pairs}
use Rattle.hys_tab.specs.Table.{multipliers_of}
use Rattle.hys_dual.specs.Relaxing.{IsWarm, IsLeast}
use Rattle.hys_dual.specs.declared.warm.Warm.{Warm}

-- a tableau that was reached at a node serves each node below
abbrev pub WarmBelow : Type 0
WarmBelow = (p : Problem) (k : ℕ) (fixings : List Fixing) (w : Warm) → k ≤ length fixings → IsWarm p (take k fixings) w → IsWarm p fixings w

-- what is read off a tableau of a problem are the multipliers of its cost row
abbrev pub ReadMultipliers : Type 0
ReadMultipliers = (p : Problem) (T : Tableau) → IsOf (linear_program p) T → multipliers_of T ≡ cost_pairs p T

-- the bound of the multipliers of a least point is at least the plain bound
abbrev pub LeastAbove : Type 0
LeastAbove = (p : Problem) (fixings : List Fixing) (v : List Number) (pairs : List (ℕ × Number)) → IsProblem p → IsNode p fixings → IsLeast p fixings v pairs → plain_bound p ≤ₙ node_bound p fixings pairs
