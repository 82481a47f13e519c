-- What the laws of this crate say.
use Rattle.std.specs.Prelude.{◌≡◌, ℕ, List, [], ◌∷◌, ◌++◌, length, take, Some, Bool, true, false, IsTrue, ◌⊎◌, if◌then◌else◌}
use Rattle.hys_number.specs.Number.{Number}
use Rattle.hys_number.specs.Ops.{◌≤ₙ◌, ◌<ₙ◌, whole, neg, fits}
use Rattle.hys_lin.specs.Bits.{IsBit}
use Rattle.hys_lin.specs.Sums.{at, value, Within}
use Rattle.hys_lin.specs.Operations.{first_lost, summing, times}
use Rattle.hys_lin.specs.declared.form.Term.{Term}
use Rattle.hys_lin.specs.declared.problem.Problem.{Problem}
use Rattle.hys_lin.specs.Problem.{IsProblem}
use Rattle.hys_relax.specs.Node.{is_branch, is_fixed, unit_box, StackedSolution, IsNode, Boxes, node_boxes, RelaxedPoint, Agrees}
use Rattle.hys_relax.specs.LinearProgram.{linear_program}
use Rattle.hys_relax.specs.Bound.{multiplier, AreMultipliers, AreLawful, IsLeastOver, lagrangian, bound_of, node_bound, plain_bound, costless}
use Rattle.hys_relax.specs.BoundSum.{summed_coefficient, summed_constant, summed_ends, bound_lost, BoundFits, subtracting, not_zero}
use Rattle.hys_relax.specs.Worked.{worked, fix, on_equation, on_both, on_demand}
use Rattle.hys_relax.specs.declared.fixing.Fixing.{Fixing}

-- the bound at a node is the least value, over its boxes, of the cost with the weighted rows
abbrev pub BoundIsLeast : Type 0
BoundIsLeast = (p : Problem) (fixings : List Fixing) (pairs : List (ℕ × Number)) → IsProblem p →
    IsLeastOver (length p.boxes) (node_boxes p fixings) (lagrangian (linear_program p) (multiplier pairs)) (node_bound p fixings pairs)

-- no relaxed point of a node costs less than the bound of lawful multipliers there
abbrev pub WeakDuality : Type 0
WeakDuality = (p : Problem) (fixings : List Fixing) (pairs : List (ℕ × Number)) (v : List Number) → IsProblem p → AreLawful p pairs →
    RelaxedPoint p fixings v → node_bound p fixings pairs ≤ₙ value p.cost (at v)

-- lawful multipliers whose bound with cost 0 is above 0 show that a node has no relaxed point
abbrev pub NoRelaxedPoint : Type 0
NoRelaxedPoint = (p : Problem) (fixings : List Fixing) (pairs : List (ℕ × Number)) (v : List Number) → IsProblem p → AreLawful p pairs →
    whole 0 <ₙ node_bound (costless p) fixings pairs → RelaxedPoint p fixings v → ⊥

-- the bound over the boxes of the first k fixings is at most that over the node's
abbrev pub BoundOfPrefix : Type 0
BoundOfPrefix = (p : Problem) (k : ℕ) (fixings : List Fixing) (pairs : List (ℕ × Number)) → IsProblem p → IsNode p fixings →
    node_bound p (take k fixings) pairs ≤ₙ node_bound p fixings pairs

-- no solution costs less than the plain bound
abbrev pub PlainBound : Type 0
PlainBound = (p : Problem) (v : List Number) → IsProblem p → StackedSolution p v → plain_bound p ≤ₙ value p.cost (at v)

-- a solution that agrees with the fixings is a relaxed point of their node
abbrev pub SolutionRelaxes : Type 0
SolutionRelaxes = (p : Problem) (fixings : List Fixing) (v : List Number) → StackedSolution p v → Agrees fixings (at v) → RelaxedPoint p fixings v

-- what the operations of a bound's sum come to is the bound
abbrev pub SumIsBound : Type 0
SumIsBound = (p : Problem) (B : Boxes) (pairs : List (ℕ × Number)) → AreMultipliers pairs → AreLawful p pairs →
    summed_ends (summed_constant p pairs) (summed_coefficient p pairs) B (length p.boxes) ≡ bound_of (linear_program p) B (multiplier pairs)

-- ---- children and points
-- a node with one more branch column fixed is a node
abbrev pub ChildIsNode : Type 0
ChildIsNode = (p : Problem) (fixings : List Fixing) (f : Fixing) → IsNode p fixings → IsTrue (is_branch p f.column) → is_fixed fixings f.column ≡ false →
    IsNode p (fixings ++ f ∷ [])

-- the fixings with the column at a value too
abbrev pub child : List Fixing → ℕ → Bool → List Fixing
child fixings c one = fixings ++ record { column = c; one = one } ∷ []

-- a solution that agrees with a node's fixings agrees with those of one of its two children
abbrev pub ChildrenCover : Type 0
ChildrenCover = (p : Problem) (fixings : List Fixing) (c : ℕ) (v : List Number) → StackedSolution p v → Agrees fixings (at v) → IsTrue (is_branch p c) →
    Agrees (child fixings c false) (at v) ⊎ Agrees (child fixings c true) (at v)

-- a relaxed point of a node is one of each node above
abbrev pub PointAbove : Type 0
PointAbove = (p : Problem) (k : ℕ) (fixings : List Fixing) (v : List Number) → IsProblem p → IsNode p fixings → RelaxedPoint p fixings v → RelaxedPoint p (take k fixings) v

-- in a relaxed point the branch columns lie between 0 and 1, and the fixed ones are 0 or 1
abbrev pub BranchWithin : Type 0
BranchWithin = (p : Problem) (fixings : List Fixing) (v : List Number) (c : ℕ) → IsProblem p → IsNode p fixings → RelaxedPoint p fixings v →
    IsTrue (is_branch p c) → Within unit_box (at v c) × (IsTrue (is_fixed fixings c) → IsBit (at v c))

-- a relaxed point whose branch columns are 0 or 1 is a solution
abbrev pub PointSolves : Type 0
PointSolves = (p : Problem) (fixings : List Fixing) (v : List Number) → IsProblem p → IsNode p fixings → RelaxedPoint p fixings v →
    ((c : ℕ) → IsTrue (is_branch p c) → IsBit (at v c)) → StackedSolution p v

-- a product of 0 loses nothing: a sum of terms may leave out those whose number is 0
abbrev pub touched : (Term → Number) → List Term → List Term
touched at [] = []
touched at (t ∷ ts) = if not_zero (at t).num then t ∷ touched at ts else touched at ts

abbrev pub ZerosLoseNothing : Type 0
ZerosLoseNothing = (start : Number) (ts : List Term) (at : Term → Number) → fits start ≡ true →
    (first_lost (summing start ts at) ≡ first_lost (summing start (touched at ts) at))
    × (first_lost (subtracting start ts at) ≡ first_lost (subtracting start (touched at ts) at))

-- bounds of the worked problem, by multipliers and node
pub record WorkedBounds : Type 0 where
  pub is_problem : IsProblem worked
  pub plain : plain_bound worked ≡ neg (whole 10)
  -- at the root
  pub root : node_bound worked [] on_both ≡ neg (whole 4)
  pub root_by_equation : node_bound worked [] on_equation ≡ neg (whole 5)
  -- with the first input at 0, and at 1
  pub without : node_bound worked (fix 1 false ∷ []) on_equation ≡ neg (whole 2)
  pub with_first : node_bound worked (fix 1 true ∷ []) on_both ≡ neg (whole 4)
  -- with the first at 1 and the second at 0
  pub one_alone : node_bound worked (fix 1 true ∷ fix 2 false ∷ []) on_equation ≡ neg (whole 3)
  -- with both at 1
  pub both : node_bound (costless worked) (fix 1 true ∷ fix 2 true ∷ []) on_demand ≡ whole 1
  -- a multiplier whose product with the coefficient -3 doesn't fit is the left operand
  pub lost : bound_lost worked (fix 1 false ∷ []) ((1, whole 9223372036854775807) ∷ []) ≡ Some (times (whole 9223372036854775807) (neg (whole 3)))
  -- a coefficient is lost before the constant
  pub lost_first : bound_lost worked [] ((0, whole 9223372036854775807) ∷ []) ≡ Some (times (whole 9223372036854775807) (whole 3))
  -- at the end of a box the coefficient is the left operand
  pub lost_end : bound_lost worked [] ((1, neg (whole 1000000000000000000)) ∷ []) ≡ Some (times (neg (whole 1000000000000000001)) (whole 10))
  pub fits : BoundFits worked (fix 1 true ∷ fix 2 false ∷ []) on_equation
