-- What is answered of the relaxed points of a node, and what a tableau holds that is kept for a later call.
use Rattle.std.specs.Prelude.{◌≡◌, ℕ, ◌<◌, ◌≤◌, ◌++◌, List, [], length, take, None}
use Rattle.std.specs.List.{AllByRecursion}
use Rattle.hys_number.specs.Number.{Number}
use Rattle.hys_number.specs.Ops.{◌≤ₙ◌, ◌<ₙ◌, whole, fits}
use Rattle.hys_lin.specs.Operations.{first_lost, valuing, row_summing}
use Rattle.hys_lin.specs.Sums.{at, value}
use Rattle.hys_lin.specs.declared.problem.Problem.{Problem}
use Rattle.hys_relax.specs.Node.{node_boxes, IsLeastRelaxed}
use Rattle.hys_relax.specs.LinearProgram.{linear_program}
use Rattle.hys_relax.specs.Bound.{AreMultipliers, AreLawful, costless, node_bound, plain_bound}
use Rattle.hys_relax.specs.BoundSum.{BoundFits}
use Rattle.hys_relax.specs.declared.fixing.Fixing.{Fixing}
use Rattle.hys_relax.specs.declared.range.RangeAt.{RangeAt}
use Rattle.hys_simplex.specs.Tableau.{after}
use Rattle.hys_simplex.specs.Status.{status_point, AllInside, IsSameStatus}
use Rattle.hys_simplex.specs.Rule.{IsBlocked}
use Rattle.hys_simplex.specs.Path.{IsPathAt, tableau_after, IsRun}
use Rattle.hys_simplex.specs.Unfit.{Unfit}
use Rattle.hys_simplex.specs.Alike.{IsAlike}
use Rattle.hys_tab.specs.Table.{Table, tableau_of}
use Rattle.hys_dual.specs.declared.relaxed.Relaxed.{Relaxed}
use Rattle.hys_dual.specs.declared.relaxed.Relaxed.TheVariants.{Least, Never, Stuck}
use Rattle.hys_dual.specs.declared.warm.Warm.{Warm}

-- ---- answers
-- every product and partial sum of the rows' sums and of the cost at the point fits
pub record PointFits (p : Problem) (v : List Number) : Type 0 where
  pub rows : AllByRecursion (λ r. first_lost (row_summing r (at v)) ≡ None) p.rows
  pub cost : first_lost (valuing p.cost (at v)) ≡ None

-- a relaxed point of least cost, lawful multipliers whose bound at the node is that cost, and all numbers of these sums
-- fit
pub record IsLeast (p : Problem) (fixings : List Fixing) (v : List Number) (pairs : List (ℕ × Number)) : Type 0 where
  pub least : IsLeastRelaxed p fixings v
  pub rise : AreMultipliers pairs
  pub lawful : AreLawful p pairs
  pub bound : node_bound p fixings pairs ≡ value p.cost (at v)
  pub sum_fits : BoundFits p fixings pairs
  pub point_fits : PointFits p v

-- lawful multipliers whose bound at the node with cost 0 is above 0, and all numbers of its sum fit
pub record IsNever (p : Problem) (fixings : List Fixing) (pairs : List (ℕ × Number)) : Type 0 where
  pub rise : AreMultipliers pairs
  pub lawful : AreLawful p pairs
  pub above : whole 0 <ₙ node_bound (costless p) fixings pairs
  pub sum_fits : BoundFits (costless p) fixings pairs

-- after the path, which is ruled at the node, the place stands for a number that doesn't fit; the bound of the lawful
-- multipliers at the node is at least the plain bound
pub record IsStuck (p : Problem) (fixings : List Fixing) (shown : RangeAt) (pairs : List (ℕ × Number)) : Type 0 where
  pub unfit : Unfit fits p fixings shown.path shown.at
  pub rise : AreMultipliers pairs
  pub lawful : AreLawful p pairs
  pub bound : plain_bound p ≤ₙ node_bound p fixings pairs

-- the answer is true of the node
abbrev pub IsRelaxed : Problem → List Fixing → Relaxed → Type 0
IsRelaxed p fixings (Least v m) = IsLeast p fixings v.values m.pairs
IsRelaxed p fixings (Never m) = IsNever p fixings m.pairs
IsRelaxed p fixings (Stuck shown m) = IsStuck p fixings shown m.pairs

-- ---- tableaux that are kept
-- the path is ruled at the node, and the table is the problem's tableau after it
pub record IsWarmAt (p : Problem) (fixings : List Fixing) (t : Table) (path : List (ℕ × ℕ)) : Type 0 where
  pub ruled : IsPathAt p fixings path
  pub reached : IsAlike (tableau_of t) (tableau_after p path)

abbrev pub IsWarm : Problem → List Fixing → Warm → Type 0
IsWarm p fixings w = IsWarmAt p fixings w.tableau w.path

-- the new path begins with the old one; what is added are pivots of the rule over the node's boxes, and among the
-- statuses before, between and after these none comes twice
pub record GoesOn (p : Problem) (fixings : List Fixing) (old new : List (ℕ × ℕ)) : Type 0 where
  pub added : List (ℕ × ℕ)
  pub path : new ≡ old ++ added
  pub ruled : IsRun (linear_program p) (node_boxes p fixings) (tableau_after p old) added
  pub once : (i j : ℕ) → i < j → j ≤ length added →
      ¬ (IsSameStatus (linear_program p) (after (tableau_after p old) (take i added)) (after (tableau_after p old) (take j added)))

-- some row leaves after the path, and no column may enter for it
pub record IsClosed (p : Problem) (fixings : List Fixing) (path : List (ℕ × ℕ)) : Type 0 where
  pub row : ℕ
  pub side : Number
  pub near : Number
  pub blocked : IsBlocked (linear_program p) (node_boxes p fixings) (tableau_after p path) row side near

-- every basic value is inside its range after the path, and the point is the status's
pub record IsPointAfter (p : Problem) (fixings : List Fixing) (path : List (ℕ × ℕ)) (v : List Number) : Type 0 where
  pub inside : AllInside (linear_program p) (node_boxes p fixings) (tableau_after p path)
  pub point : v ≡ status_point (linear_program p) (node_boxes p fixings) (tableau_after p path)

-- the answer is about the status after this path
abbrev pub EndsAfter : Problem → List Fixing → List (ℕ × ℕ) → Relaxed → Type 0
EndsAfter p fixings path (Least v m) = IsPointAfter p fixings path v.values
EndsAfter p fixings path (Never m) = IsClosed p fixings path
EndsAfter p fixings path (Stuck shown m) = shown.path ≡ path

-- the same, where the path began at the slack basis
pub record EndsFromStart (p : Problem) (fixings : List Fixing) (r : Relaxed) : Type 0 where
  pub path : List (ℕ × ℕ)
  pub ruled : GoesOn p fixings [] path
  pub ends : EndsAfter p fixings path r
