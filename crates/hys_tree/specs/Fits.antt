-- The numbers that have to fit where a tree is checked: those of the leaves' sums, and of the rows and the cost at the
-- point.
use Rattle.std.specs.Prelude.{◌≡◌, List, [], take, true, false, Option, Some, None}
use Rattle.std.specs.List.{AllByRecursion}
use Rattle.hys_number.specs.Number.{Number}
use Rattle.hys_number.specs.Ops.{whole}
use Rattle.hys_lin.specs.Sums.{at}
use Rattle.hys_lin.specs.Operations.{first_lost, summing, valuing}
use Rattle.hys_lin.specs.declared.form.Row.{Row}
use Rattle.hys_lin.specs.declared.lost.Lost.{Lost}
use Rattle.hys_lin.specs.declared.problem.Problem.{Problem}
use Rattle.hys_relax.specs.Bound.{costless}
use Rattle.hys_relax.specs.BoundSum.{BoundFits}
use Rattle.hys_relax.specs.Laws.{child}
use Rattle.hys_relax.specs.declared.fixing.Fixing.{Fixing}
use Rattle.hys_tree.specs.declared.tree.TreePlace.{TreePlace}
use Rattle.hys_tree.specs.declared.answer.Best.{Best}
use Rattle.hys_tree.specs.declared.answer.Claim.{Claim}
use Rattle.hys_tree.specs.declared.answer.Claim.TheVariants.{Least, NoneExists, AtLeast}
use Rattle.hys_tree.specs.Certificate.{Certificate, cost, never, fork, preorder}

-- every number of the bounds' sums fits
abbrev pub TreeFits : Problem → List Fixing → Certificate → Type 0
TreeFits p path (cost m k) = BoundFits p (take k path) m.pairs
TreeFits p path (never m k) = BoundFits (costless p) (take k path) m.pairs
TreeFits p path (fork c a b) = TreeFits p (child path c false) a × TreeFits p (child path c true) b

-- the first product or partial sum of a row that doesn't fit
abbrev pub row_lost : List Number → Row → Option Lost
row_lost v r = first_lost (summing (whole 0) r.terms (λ t. at v t.column))

-- the same of the cost, from its constant
abbrev pub cost_lost : Problem → List Number → Option Lost
cost_lost p v = first_lost (valuing p.cost (at v))

pub record PointFits (p : Problem) (v : List Number) : Type 0 where
  pub rows : AllByRecursion (λ r. row_lost v r ≡ None) p.rows
  pub cost : cost_lost p v ≡ None

abbrev pub BestFits : Problem → Option Best → Type 0
BestFits p None = Unit {0}
BestFits p (Some b) = PointFits p b.point.values

abbrev pub ClaimFits : Problem → Claim → Type 0
ClaimFits p (Least b) = PointFits p b.point.values
ClaimFits p NoneExists = Unit {0}
ClaimFits p (AtLeast bound best why) = BestFits p best

-- all numbers that are tested for the tree with these places and for the claim
pub record Fits (p : Problem) (places : List TreePlace) (c : Claim) : Type 0 where
  pub tree : Certificate
  pub preordered : preorder tree ≡ places
  pub fits : TreeFits p [] tree
  pub claim : ClaimFits p c
