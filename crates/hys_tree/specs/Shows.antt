-- What it is for a tree to show a claim: weak duality at the leaves of a branch and bound tree over bits.
use Rattle.std.specs.Prelude.{◌≡◌, ℕ, ◌≤◌, List, [], length, take, true, false, IsTrue, Option, Some, None}
use Rattle.hys_number.specs.Number.{Number}
use Rattle.hys_number.specs.Ops.{◌≤ₙ◌, ◌<ₙ◌, whole}
use Rattle.hys_lin.specs.Sums.{at, value}
use Rattle.hys_lin.specs.declared.problem.Problem.{Problem}
use Rattle.hys_relax.specs.Node.{StackedSolution, is_branch, is_fixed}
use Rattle.hys_relax.specs.Bound.{AreLawful, costless, node_bound}
use Rattle.hys_relax.specs.Laws.{child}
use Rattle.hys_relax.specs.declared.fixing.Fixing.{Fixing}
use Rattle.hys_relax.specs.declared.multipliers.Multipliers.{Multipliers}
use Rattle.hys_tree.specs.declared.tree.TreePlace.{TreePlace}
use Rattle.hys_tree.specs.declared.answer.Best.{Best}
use Rattle.hys_tree.specs.declared.answer.Claim.{Claim}
use Rattle.hys_tree.specs.declared.answer.Claim.TheVariants.{Least, NoneExists, AtLeast}
use Rattle.hys_tree.specs.Certificate.{Certificate, cost, never, fork, preorder}

-- ---- what a claim says of every solution
-- it costs at least the number, or there is none
pub data Goal : Type 0 where
  at_least : Number → Goal
  none : Goal

abbrev pub goal_of : Claim → Goal
goal_of (Least b) = at_least b.cost
goal_of NoneExists = none
goal_of (AtLeast bound best why) = at_least bound

-- a cost of at least z is enough for the goal; that there is no solution is shown by no cost
abbrev pub Keeps : Goal → Number → Type 0
Keeps (at_least z) a = z ≤ₙ a
Keeps none a = ⊥

-- ---- trees
-- the multipliers are lawful, and their bound over the boxes of the first k fixings of the path keeps the goal
pub record CostShows (p : Problem) (g : Goal) (path : List Fixing) (m : Multipliers) (k : ℕ) : Type 0 where
  pub depth : k ≤ length path
  pub lawful : AreLawful p m.pairs
  pub keeps : Keeps g (node_bound p (take k path) m.pairs)

-- the multipliers are lawful, and their bound with cost 0 over the boxes of the first k fixings is above 0
pub record NeverShows (p : Problem) (path : List Fixing) (m : Multipliers) (k : ℕ) : Type 0 where
  pub depth : k ≤ length path
  pub lawful : AreLawful p m.pairs
  pub above : whole 0 <ₙ node_bound (costless p) (take k path) m.pairs

-- the column is a branch column that no fixing of the path names
pub record InnerHolds (p : Problem) (path : List Fixing) (c : ℕ) : Type 0 where
  pub branch : IsTrue (is_branch p c)
  pub free : is_fixed path c ≡ false

abbrev pub TreeShows : Problem → Goal → List Fixing → Certificate → Type 0
TreeShows p g path (cost m k) = CostShows p g path m k
TreeShows p g path (never m k) = NeverShows p path m k
TreeShows p g path (fork c a b) =
    InnerHolds p path c × TreeShows p g (child path c false) a × TreeShows p g (child path c true) b

-- ---- claims
-- a solution of the stated cost
pub record IsSolvedBy (p : Problem) (b : Best) : Type 0 where
  pub solution : StackedSolution p b.point.values
  pub cost : value p.cost (at b.point.values) ≡ b.cost

-- the best is a solution of its cost, which isn't below the bound
pub record IsBest (p : Problem) (bound : Number) (b : Best) : Type 0 where
  pub solved : IsSolvedBy p b
  pub above : bound ≤ₙ b.cost

abbrev pub BestHolds : Problem → Number → Option Best → Type 0
BestHolds p bound None = Unit {0}
BestHolds p bound (Some b) = IsBest p bound b

-- what a claim says beside its goal; why a search ended has no part in it
abbrev pub ClaimHolds : Problem → Claim → Type 0
ClaimHolds p (Least b) = IsSolvedBy p b
ClaimHolds p NoneExists = Unit {0}
ClaimHolds p (AtLeast bound best why) = BestHolds p bound best

-- the places are those of one tree in preorder, which shows the claim
pub record Shows (p : Problem) (places : List TreePlace) (c : Claim) : Type 0 where
  pub tree : Certificate
  pub preordered : preorder tree ≡ places
  pub shows : TreeShows p (goal_of c) [] tree
  pub claim : ClaimHolds p c
