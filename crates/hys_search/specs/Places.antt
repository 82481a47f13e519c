-- The tree of the nodes as places, what its leaves bound, and what it shows.
use Rattle.std.specs.Prelude.{◌≡◌, ℕ, ◌<◌, Bool, true, false, List, [], ◌∷◌, ◌++◌, length, get_or, map, ◌⊎◌, Option, Some, None}
use Rattle.hys_number.specs.Number.{Number}
use Rattle.hys_number.specs.Ops.{◌≤ₙ◌, ◌<ₙ◌}
use Rattle.hys_lin.specs.declared.problem.Problem.{Problem}
use Rattle.hys_relax.specs.Bound.{plain_bound}
use Rattle.hys_relax.specs.Laws.{child}
use Rattle.hys_relax.specs.declared.fixing.Fixing.{Fixing}
use Rattle.hys_tree.specs.Certificate.{cost, never, fork, preorder}
use Rattle.hys_tree.specs.Certificate.{Certificate as Tree}
use Rattle.hys_tree.specs.Shows.{Goal, at_least, none, Shows}
use Rattle.hys_tree.specs.Fits.{Fits}
use Rattle.hys_tree.specs.declared.tree.TreePlace.{TreePlace}
use Rattle.hys_tree.specs.declared.tree.TreePlace.TheVariants.{Inner, Cost}
use Rattle.hys_tree.specs.declared.tree.TreePlace.TheVariants.{Never as never_place}
use Rattle.hys_tree.specs.declared.answer.Claim.{Claim}
use Rattle.hys_tree.specs.declared.answer.Claim.TheVariants.{NoneExists, AtLeast}
use Rattle.hys_tree.specs.declared.answer.Why.{Why}
use Rattle.hys_tree.specs.declared.answer.Why.TheVariants.{Spent, Range}
use Rattle.hys_search.specs.declared.nodes.Node.{Node}
use Rattle.hys_search.specs.declared.nodes.Standing.{Standing}
use Rattle.hys_search.specs.declared.nodes.Standing.TheVariants.{Waits, Inner as inner, Never, Closed, Kept}
use Rattle.hys_search.specs.declared.nodes.Certificate.{Certificate}
use Rattle.hys_search.specs.Nodes.{node_at, path, shape, labels}
use Rattle.hys_search.specs.Standings.{certificate_at, bound_of}
use Rattle.hys_search.specs.Core.{Core, IsFirstKept}

-- ---- a place with the fixings on its path
pub record Visit : Type 0 where
  pub fixings : List Fixing
  pub place : TreePlace

-- the places of a tree in preorder, with their paths
abbrev pub walk : List Fixing → Tree → List Visit
walk fs (cost m k) = record { fixings = fs; place = Cost m k } ∷ []
walk fs (never m k) = record { fixings = fs; place = never_place m k } ∷ []
walk fs (fork c a b) =
    record { fixings = fs; place = Inner c } ∷ (walk (child fs c false) a ++ walk (child fs c true) b)

abbrev pub no_visit : Visit
no_visit = record { fixings = []; place = Inner 0 }

abbrev pub visit : Tree → ℕ → Visit
visit t i = get_or (walk [] t) i no_visit

-- ---- the places of the nodes
abbrev pub place_of : Certificate → Standing → TreePlace
place_of c Waits = Cost c.multipliers c.depth
place_of c (inner d k) = Inner d
place_of c Never = never_place c.multipliers c.depth
place_of c Closed = Cost c.multipliers c.depth
place_of c (Kept a) = Cost c.multipliers c.depth

abbrev pub place_at : List Node → List Certificate → ℕ → TreePlace
place_at ns cs i = place_of (certificate_at cs (node_at ns i).held) (node_at ns i).standing

abbrev pub places_of : Core → List TreePlace
places_of C = map (place_at C.nodes C.certificates) (labels (shape C.nodes))

abbrev pub visit_at : Core → ℕ → Visit
visit_at C j = record { fixings = path C.nodes j; place = place_at C.nodes C.certificates j }

-- the places are those of a tree whose walk goes through the nodes
pub record IsTreeOf (C : Core) (places : List TreePlace) : Type 0 where
  pub tree : Tree
  pub preordered : preorder tree ≡ places
  pub placed : places ≡ places_of C
  pub walked : walk [] tree ≡ map (visit_at C) (labels (shape C.nodes))

-- ---- the lower bound
abbrev pub is_cost : Standing → Bool
is_cost Waits = true
is_cost (inner d k) = false
is_cost Never = false
is_cost Closed = true
is_cost (Kept a) = true

-- the least bound of the first n nodes' Cost leaves; none where there is no such leaf
abbrev pub IsLowest : List Node → List Certificate → ℕ → Option Number → Type 0
IsLowest ns cs n None = (j : ℕ) → j < n → is_cost (node_at ns j).standing ≡ false
IsLowest ns cs n (Some z) =
    ((j : ℕ) → j < n → is_cost (node_at ns j).standing ≡ true → z ≤ₙ bound_of ns cs j)
    × ((j : ℕ) × (j < n) × (is_cost (node_at ns j).standing ≡ true) × (bound_of ns cs j ≡ z))

abbrev pub IsLower : Core → Option Number → Type 0
IsLower C o = IsLowest C.nodes C.certificates (length C.nodes) o

abbrev pub goal_by : Option Number → Goal
goal_by None = none
goal_by (Some z) = at_least z

-- the lesser of a bound and one more, which counts where `counts`
abbrev pub IsLesser : Option Number → Bool → Number → Option Number → Type 0
IsLesser o false b r = r ≡ o
IsLesser None true b r = r ≡ Some b
IsLesser (Some a) true b r = ((b <ₙ a) × (r ≡ Some b)) ⊎ ((a ≤ₙ b) × (r ≡ Some a))

-- the lesser of a bound and that of one more node, where the node has one
abbrev pub IsLesserWith : Option Number → List Certificate → Node → Option Number → Type 0
IsLesserWith o cs n r = IsLesser o (is_cost n.standing) (certificate_at cs n.held).bound r

abbrev pub NotBelowPlain : Problem → Option Number → Type 0
NotBelowPlain p None = Unit {0}
NotBelowPlain p (Some z) = plain_bound p ≤ₙ z

-- ---- what the tree shows
-- that no solution costs less than the lower bound, or that there is none
abbrev pub claim_by : Core → Option Number → Why → Claim
claim_by C None why = NoneExists
claim_by C (Some z) why = AtLeast z C.found why

-- the places show it with the best found, and every number of their sums fits
abbrev pub ShowsLower : Core → List TreePlace → Type 0
ShowsLower C places = (o : Option Number) (why : Why) → IsLower C o →
    Shows C.problem places (claim_by C o why) × Fits C.problem places (claim_by C o why)

-- the cause is the fault of the first open leaf that was kept, with the leaf's place
abbrev pub IsKeptCause : Core → Why → Type 0
IsKeptCause C (Spent n) = ⊥
IsKeptCause C (Range i r) = IsFirstKept C i r
