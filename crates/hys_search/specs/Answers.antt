-- What an expansion answers, and when.
use Rattle.std.specs.Prelude.{◌≡◌, ℕ, suc, ◌+◌, ◌<◌, List, length, get_or, Option, Some, None, ◌⊎◌}
use Rattle.hys_number.specs.Number.{Number}
use Rattle.hys_number.specs.Ops.{◌≤ₙ◌}
use Rattle.hys_lin.specs.declared.form.Point.{Point}
use Rattle.hys_relax.specs.Node.{StackedSolution, RelaxedPoint, IsLeastRelaxed}
use Rattle.hys_relax.specs.declared.fixing.Fixing.{Fixing}
use Rattle.hys_relax.specs.declared.range.RangeAt.{RangeAt}
use Rattle.hys_simplex.specs.Path.{IsPathAt}
use Rattle.hys_dual.specs.Relaxing.{IsPointAfter, GoesOn}
use Rattle.hys_tree.specs.Shows.{InnerHolds}
use Rattle.hys_tree.specs.declared.answer.Best.{Best}
use Rattle.hys_search.specs.declared.nodes.Standing.TheVariants.{Inner as inner, Never as never, Closed as closed, Kept as kept}
use Rattle.hys_search.specs.declared.expand.Expanded.{Expanded}
use Rattle.hys_search.specs.declared.expand.Expanded.TheVariants.{Never, Closed, Found, Branched, Kept}
use Rattle.hys_search.specs.Branching.{cost_at, column_of, AllFixed, IsUnfit, IsBetween}
use Rattle.hys_search.specs.Nodes.{node_at}
use Rattle.hys_search.specs.Standings.{bound_of, no_fault, IsSettledBy, Beats}
use Rattle.hys_search.specs.Places.{IsLower}
use Rattle.hys_search.specs.Core.{Core, Holds, LastingCertificates, picked_of, picked_path}

-- the kept path was made at the node that was expanded, and is ruled there
pub record IsReached (C : Core) (which : ℕ) (D : Core) : Type 0 where
  pub node : D.warm_at ≡ picked_of C which
  pub ruled : IsPathAt C.problem (picked_path C which) D.warm.path

-- the bound that is kept at the picked place isn't below the one that was kept there
abbrev pub IsRisen : Core → ℕ → Core → Type 0
IsRisen C which D =
    bound_of C.nodes C.certificates (picked_of C which) ≤ₙ bound_of D.nodes D.certificates (picked_of C which)

-- a solution of the node, of the node's bound, that beats what was found; its point is that of the status after the
-- kept path
pub record IsFound (C : Core) (which : ℕ) (D : Core) (b : Best) : Type 0 where
  pub found : D.found ≡ Some b
  pub solution : StackedSolution C.problem b.point.values
  pub relaxed : RelaxedPoint C.problem (picked_path C which) b.point.values
  pub cost : cost_at C.problem b.point ≡ b.cost
  pub beats : Beats C.found b.cost
  pub closed : (node_at D.nodes (picked_of C which)).standing ≡ closed
  pub bound : bound_of D.nodes D.certificates (picked_of C which) ≡ b.cost
  pub risen : IsRisen C which D
  pub reached : IsReached C which D
  pub point : IsPointAfter C.problem (picked_path C which) D.warm.path b.point.values

-- why a column is branched: a number doesn't fit at the node, or a relaxed point of least cost has it strictly between
-- 0 and 1, costs less than what was found, and its cost is the bound that is kept
abbrev pub BranchCause : Core → ℕ → Core → ℕ → Type 0
BranchCause C which D c =
    ((r : RangeAt) × IsUnfit C.problem (picked_path C which) r)
    ⊎ ((x : Point) × IsLeastRelaxed C.problem (picked_path C which) x.values × IsBetween (column_of x c)
    × Beats C.found (cost_at C.problem x) × (bound_of D.nodes D.certificates (picked_of C which) ≡ cost_at C.problem x))

-- both children hold the certificate of the node that was branched
pub record AreHeirs (C : Core) (which : ℕ) (D : Core) : Type 0 where
  pub first : (node_at D.nodes (length C.nodes)).held ≡ (node_at D.nodes (picked_of C which)).held
  pub second : (node_at D.nodes (suc (length C.nodes))).held ≡ (node_at D.nodes (picked_of C which)).held

-- a column that is free at the node, and why it was branched
pub record IsBranchedAt (C : Core) (which : ℕ) (D : Core) (c : ℕ) : Type 0 where
  pub inner : (node_at D.nodes (picked_of C which)).standing ≡ inner c (length C.nodes)
  pub free : InnerHolds C.problem (picked_path C which) c
  pub why : BranchCause C which D c
  pub risen : IsRisen C which D
  pub heirs : AreHeirs C which D
  pub found : D.found ≡ C.found
  pub reached : IsReached C which D

-- every branch column is fixed, and a number doesn't fit
pub record IsKept (C : Core) (which : ℕ) (D : Core) (a : ℕ) : Type 0 where
  pub kept : (node_at D.nodes (picked_of C which)).standing ≡ kept a
  pub fixed : AllFixed C.problem (picked_path C which)
  pub unfit : IsUnfit C.problem (picked_path C which) (get_or D.faults a no_fault)
  pub risen : IsRisen C which D
  pub found : D.found ≡ C.found

abbrev pub Answered : Core → ℕ → Core → Expanded → Type 0
Answered C which D Never = ((node_at D.nodes (picked_of C which)).standing ≡ never) × (D.found ≡ C.found)
Answered C which D Closed =
    ((node_at D.nodes (picked_of C which)).standing ≡ closed)
    × IsSettledBy C.found (bound_of D.nodes D.certificates (picked_of C which))
    × IsRisen C which D × (D.found ≡ C.found)
Answered C which D Found = (b : Best) × IsFound C which D b
Answered C which D Branched = (c : ℕ) × IsBranchedAt C which D c
Answered C which D Kept = (a : ℕ) × IsKept C which D a

-- two children of a node that was branched, and no node besides
abbrev pub added : Expanded → ℕ
added Never = 0
added Closed = 0
added Found = 0
added Branched = 2
added Kept = 0

-- every other node stays, with what its certificate was
pub record IsExpanded (C : Core) (which : ℕ) (D : Core) (e : Expanded) : Type 0 where
  pub holds : Holds D
  pub problem : D.problem ≡ C.problem
  pub limit : D.limit ≡ C.limit
  pub counted : D.expanded ≡ C.expanded + 1
  pub others : (j : ℕ) → j < length C.nodes → (j ≡ picked_of C which → ⊥) → node_at D.nodes j ≡ node_at C.nodes j
  pub lasting : LastingCertificates C.certificates D.certificates
  pub grown : length D.nodes ≡ length C.nodes + added e
  pub answered : Answered C which D e

-- no bound is above every number
abbrev pub IsNotAbove : Option Number → Option Number → Type 0
IsNotAbove a None = Unit {0}
IsNotAbove None (Some b) = ⊥
IsNotAbove (Some a) (Some b) = a ≤ₙ b

-- the lower bound doesn't fall
abbrev pub KeepsLower : Core → Core → Type 0
KeepsLower C D = (a b : Option Number) → IsLower C a → IsLower D b → IsNotAbove a b

-- at a child of the node whose tableau is kept, the path goes on from the kept one over the boxes of these fixings
abbrev pub GoesOnBelow : Core → ℕ → List Fixing → List (ℕ × ℕ) → Type 0
GoesOnBelow C place fixings path = (node_at C.nodes place).parent ≡ C.warm_at → GoesOn C.problem fixings C.warm.path path

-- after Branched and Found, at a child of the node whose tableau was kept, the kept path goes on from the one before
abbrev pub WentOn : Core → ℕ → Core → Type 0
WentOn C which D = GoesOnBelow C (picked_of C which) (picked_path C which) D.warm.path

abbrev pub PathAfter : Core → ℕ → Core → Expanded → Type 0
PathAfter C which D Never = WentOn C which D
PathAfter C which D Closed = Unit {0}
PathAfter C which D Found = WentOn C which D
PathAfter C which D Branched = WentOn C which D
PathAfter C which D Kept = WentOn C which D
