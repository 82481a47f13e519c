-- Mixed integer problems, their solutions, the nodes of a search and their relaxed points.
use Rattle.std.specs.Prelude.{◌≡◌, ℕ, ◌<◌, List, [], ◌∷◌, length, IsTrue, Bool, false, cond, nat_eq}
use Rattle.std.specs.List.{AllByRecursion, list_any}
use Rattle.hys_number.specs.Number.{Number}
use Rattle.hys_number.specs.Ops.{◌≤ₙ◌, whole}
use Rattle.hys_lin.specs.Bits.{bit, IsBit}
use Rattle.hys_lin.specs.Sums.{Assignment, at, value, Within, IsInterval, HoldAll}
use Rattle.hys_lin.specs.Ranges.{box_at, InBoxes}
use Rattle.hys_lin.specs.Over.{AreTermsOver}
use Rattle.hys_lin.specs.declared.form.Interval.{Interval}
use Rattle.hys_lin.specs.declared.problem.Problem.{Problem}
use Rattle.hys_relax.specs.declared.fixing.Fixing.{Fixing}

-- ---- problems
-- the column has to be 0 or 1
abbrev pub is_branch : Problem → ℕ → Bool
is_branch p c = list_any (nat_eq c) p.branch

-- from 0 to 1
abbrev pub unit_box : Interval
unit_box = record { low = whole 0; high = whole 1 }

-- a solution of a problem: a number for each column, inside its box, 0 or 1 in each branch column, with which
-- every row holds
pub record StackedSolution (p : Problem) (v : List Number) : Type 0 where
  pub long : length v ≡ length p.boxes
  pub inside : InBoxes p.boxes (at v)
  pub bits : (c : ℕ) → IsTrue (is_branch p c) → IsBit (at v c)
  pub rows : HoldAll (at v) p.rows

-- ---- nodes
-- a fixing names the column
abbrev pub is_fixed : List Fixing → ℕ → Bool
is_fixed fixings c = list_any (λ f. nat_eq f.column c) fixings

-- a node: the fixings name different branch columns
abbrev pub IsNode : Problem → List Fixing → Type 0
IsNode p [] = Unit {0}
IsNode p (f ∷ fs) = IsTrue (is_branch p f.column) × (is_fixed fs f.column ≡ false) × IsNode p fs

-- the interval of one number
abbrev pub only : Number → Interval
only a = record { low = a; high = a }

-- the box of column j under fixings: the fixed number alone, or the box itself where no fixing names j
abbrev pub box_under : List Fixing → Interval → ℕ → Interval
box_under [] box j = box
box_under (f ∷ fs) box j = cond (nat_eq f.column j) (only (bit f.one)) (box_under fs box j)

-- a box for each column
abbrev pub Boxes : Type 0
Boxes = ℕ → Interval

-- the boxes of a node
abbrev pub node_boxes : Problem → List Fixing → Boxes
node_boxes p fixings j = box_under fixings (box_at p.boxes j) j

-- each of the first n numbers is in its box
abbrev pub Inside : ℕ → Boxes → Assignment → Type 0
Inside n B v = (j : ℕ) → j < n → Within (B j) (v j)

-- a relaxed point of a node: inside its boxes, and every row holds; a branch column may lie between 0 and 1
pub record RelaxedPoint (p : Problem) (fixings : List Fixing) (v : List Number) : Type 0 where
  pub long : length v ≡ length p.boxes
  pub inside : Inside (length p.boxes) (node_boxes p fixings) (at v)
  pub rows : HoldAll (at v) p.rows

-- a relaxed point of least cost
pub record IsLeastRelaxed (p : Problem) (fixings : List Fixing) (v : List Number) : Type 0 where
  pub is_point : RelaxedPoint p fixings v
  pub least : (u : List Number) → RelaxedPoint p fixings u → value p.cost (at v) ≤ₙ value p.cost (at u)

-- the fixed columns have their numbers
abbrev pub Agrees : List Fixing → Assignment → Type 0
Agrees [] v = Unit {0}
Agrees (f ∷ fs) v = (v f.column ≡ bit f.one) × Agrees fs v
