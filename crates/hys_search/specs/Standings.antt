-- What holds of a node, by what became of it.
use Rattle.std.specs.Prelude.{◌≡◌, ℕ, suc, ◌<◌, ◌≤◌, true, false, List, [], length, get_or, take, Option, Some, None}
use Rattle.hys_number.specs.Number.{Number}
use Rattle.hys_number.specs.Ops.{◌≤ₙ◌, ◌<ₙ◌, whole}
use Rattle.hys_lin.specs.declared.problem.Problem.{Problem}
use Rattle.hys_relax.specs.Node.{StackedSolution}
use Rattle.hys_relax.specs.Bound.{AreMultipliers, AreLawful, costless, plain_bound}
use Rattle.hys_relax.specs.BoundSum.{BoundFits}
use Rattle.hys_relax.specs.declared.fixing.Fixing.{Fixing}
use Rattle.hys_relax.specs.declared.multipliers.Multipliers.{Multipliers}
use Rattle.hys_relax.specs.declared.range.RangeAt.{RangeAt}
use Rattle.hys_relax.specs.declared.range.TablePlace.TheVariants.{Sum}
use Rattle.hys_dual.specs.Relaxing.{PointFits}
use Rattle.hys_tree.specs.Shows.{InnerHolds}
use Rattle.hys_tree.specs.declared.answer.Best.{Best}
use Rattle.hys_search.specs.declared.nodes.Node.{Node}
use Rattle.hys_search.specs.declared.nodes.Standing.{Standing}
use Rattle.hys_search.specs.declared.nodes.Standing.TheVariants.{Waits, Inner, Never, Closed, Kept}
use Rattle.hys_search.specs.declared.nodes.Certificate.{Certificate}
use Rattle.hys_search.specs.Branching.{cost_at, AllFixed, IsUnfit, IsJustified, bound_at, never_at}
use Rattle.hys_search.specs.Nodes.{node_at, path}

-- ---- certificates and faults, by their places in lists
abbrev pub nothing : Multipliers
nothing = record { pairs = [] }

abbrev pub no_certificate : Certificate
no_certificate = record { multipliers = nothing; depth = 0; bound = whole 0 }

abbrev pub certificate_at : List Certificate → ℕ → Certificate
certificate_at cs i = get_or cs i no_certificate

abbrev pub no_fault : RangeAt
no_fault = record { path = []; at = Sum }

abbrev pub bound_of : List Node → List Certificate → ℕ → Number
bound_of ns cs i = (certificate_at cs (node_at ns i).held).bound

-- the lawful multipliers give this bound at the node with the first fixings of the path, every number of its sum
-- fits, and it isn't below the plain bound
pub record Certifies (p : Problem) (c : Certificate) (fs : List Fixing) : Type 0 where
  pub within : c.depth ≤ length fs
  pub rise : AreMultipliers c.multipliers.pairs
  pub lawful : AreLawful p c.multipliers.pairs
  pub bound : c.bound ≡ bound_at p (take c.depth fs) c.multipliers
  pub sum_fits : BoundFits p (take c.depth fs) c.multipliers.pairs
  pub least : plain_bound p ≤ₙ c.bound

-- the lawful multipliers show that the node has no relaxed point, and every number of their sum fits
pub record Excludes (p : Problem) (c : Certificate) (fs : List Fixing) : Type 0 where
  pub within : c.depth ≤ length fs
  pub rise : AreMultipliers c.multipliers.pairs
  pub lawful : AreLawful p c.multipliers.pairs
  pub above : whole 0 <ₙ never_at p (take c.depth fs) c.multipliers
  pub sum_fits : BoundFits (costless p) (take c.depth fs) c.multipliers.pairs

abbrev pub IsCertified : Problem → List Certificate → ℕ → List Fixing → Type 0
IsCertified p cs held fs = (held < length cs) × Certifies p (certificate_at cs held) fs

abbrev pub IsExcluded : Problem → List Certificate → ℕ → List Fixing → Type 0
IsExcluded p cs held fs = (held < length cs) × Excludes p (certificate_at cs held) fs

-- ---- standings
-- the two children of i from k on
pub record AreChildren (ns : List Node) (i c k : ℕ) : Type 0 where
  pub later : i < k
  pub there : suc k < length ns
  pub parent_0 : (node_at ns k).parent ≡ i
  pub fixing_0 : (node_at ns k).fixing ≡ record { column = c; one = false }
  pub parent_1 : (node_at ns (suc k)).parent ≡ i
  pub fixing_1 : (node_at ns (suc k)).fixing ≡ record { column = c; one = true }

-- the best cost found is at most this
abbrev pub IsSettledBy : Option Best → Number → Type 0
IsSettledBy None z = ⊥
IsSettledBy (Some b) z = b.cost ≤ₙ z

-- below the best cost found, where one was found
abbrev pub Beats : Option Best → Number → Type 0
Beats None z = Unit {0}
Beats (Some b) z = z <ₙ b.cost

-- a waiting node is certified; an inner one was branched for a cause; a closed one has a bound that isn't below the
-- best cost found; a kept one has every branch column fixed and a number that doesn't fit
abbrev pub Stands : Problem → List Certificate → List RangeAt → Option Best → List Node → ℕ → ℕ → List Fixing → Standing → Type 0
Stands p cs rs found ns i held fs Waits = IsCertified p cs held fs
Stands p cs rs found ns i held fs (Inner c k) = InnerHolds p fs c × IsJustified p fs c × AreChildren ns i c k
Stands p cs rs found ns i held fs Never = IsExcluded p cs held fs
Stands p cs rs found ns i held fs Closed =
    IsCertified p cs held fs × IsSettledBy found (certificate_at cs held).bound
Stands p cs rs found ns i held fs (Kept a) =
    IsCertified p cs held fs × (a < length rs) × AllFixed p fs × IsUnfit p fs (get_or rs a no_fault)

abbrev pub NodeHolds : Problem → List Certificate → List RangeAt → Option Best → List Node → ℕ → Type 0
NodeHolds p cs rs found ns i = Stands p cs rs found ns i (node_at ns i).held (path ns i) (node_at ns i).standing

-- the best is a solution of its cost, the numbers of its sums fit, and some closed leaf has that bound
pub record IsBest (p : Problem) (ns : List Node) (cs : List Certificate) (b : Best) : Type 0 where
  pub solution : StackedSolution p b.point.values
  pub cost : cost_at p b.point ≡ b.cost
  pub point_fits : PointFits p b.point.values
  pub place : ℕ
  pub there : place < length ns
  pub closed : (node_at ns place).standing ≡ Closed
  pub bound : bound_of ns cs place ≡ b.cost

abbrev pub FoundHolds : Problem → List Node → List Certificate → Option Best → Type 0
FoundHolds p ns cs None = Unit {0}
FoundHolds p ns cs (Some b) = IsBest p ns cs b
