-- How the pivots at a node end, as the code finds it, over boxes and a tableau.
use Rattle.std.specs.Prelude.{◌≡◌, ℕ, ◌<◌, Bool, true, false, List, None}
use Rattle.hys_number.specs.Number.{Number}
use Rattle.hys_number.specs.Ops.{fits}
use Rattle.hys_lin.specs.Operations.{first_lost}
use Rattle.hys_lin.specs.declared.lost.Lost.{Lost}
use Rattle.hys_lin.specs.declared.problem.Problem.{Problem}
use Rattle.hys_relax.specs.Node.{Boxes, node_boxes}
use Rattle.hys_relax.specs.LinearProgram.{LinearProgram, linear_program}
use Rattle.hys_relax.specs.Bound.{costless}
use Rattle.hys_relax.specs.BoundSum.{bound_operations}
use Rattle.hys_relax.specs.declared.fixing.Fixing.{Fixing}
use Rattle.hys_simplex.specs.Tableau.{Tableau}
use Rattle.hys_simplex.specs.Status.{status_point, AllInside}
use Rattle.hys_simplex.specs.Rule.{IsRuled, IsBlocked}
use Rattle.hys_simplex.specs.Path.{tableau_after}
use Rattle.hys_simplex.specs.Unfit.{SomeUnfit, value_operations, cost_pairs, row_pairs, UnfitAt}
use Rattle.hys_tab.specs.Table.{multipliers_of}
use Rattle.hys_dual.specs.Relaxing.{PointFits}
use Rattle.hys_dual.specs.declared.finish.Finish.{Finish}
use Rattle.hys_dual.specs.declared.finish.Finish.TheVariants.{Least, Never, Stuck}
use Rattle.hys_dual.specs.declared.finish.Choice.{Choice}
use Rattle.hys_dual.specs.declared.finish.Choice.TheVariants.{Pivot, Done}
use Rattle.hys_dual.specs.declared.finish.Pointed.{Pointed}
use Rattle.hys_dual.specs.declared.finish.Pointed.TheVariants.{At, Unfit}
use Rattle.hys_dual.specs.declared.relaxed.Relaxed.{Relaxed}
use Rattle.hys_dual.specs.declared.relaxed.Relaxed.TheVariants.{Least as AnswerLeast, Never as AnswerNever, Stuck as AnswerStuck}

-- every operation's outcome fits, or some outcome doesn't
abbrev pub AreFitting : List Lost → Bool → Type 0
AreFitting os true = first_lost os ≡ None
AreFitting os false = SomeUnfit fits os

-- a product or partial sum of the row's basic value doesn't fit
abbrev pub IsRowUnfit : LinearProgram → Boxes → Tableau → ℕ → Type 0
IsRowUnfit P B T i = (i < P.rows) × SomeUnfit fits (value_operations P B T i)

-- the point of the status, or a row whose basic value doesn't fit
abbrev pub IsPointed : LinearProgram → Boxes → Tableau → Pointed → Type 0
IsPointed P B T (At v) = v.values ≡ status_point P B T
IsPointed P B T (Unfit i) = IsRowUnfit P B T i

-- every basic value is inside; the point is the status's, the multipliers are those of the cost row, and all numbers of
-- these sums fit
pub record IsLeastHere (p : Problem) (B : Boxes) (T : Tableau) (v : List Number) (pairs : List (ℕ × Number)) : Type 0 where
  pub inside : AllInside (linear_program p) B T
  pub point : v ≡ status_point (linear_program p) B T
  pub read : pairs ≡ cost_pairs p T
  pub sum_fits : first_lost (bound_operations p B pairs) ≡ None
  pub point_fits : PointFits p v

-- no column may enter for the row that leaves; the multipliers are its own, and all numbers of their sum fit
pub record IsNeverHere (p : Problem) (B : Boxes) (T : Tableau) (pairs : List (ℕ × Number)) : Type 0 where
  pub row : ℕ
  pub side : Number
  pub near : Number
  pub blocked : IsBlocked (linear_program p) B T row side near
  pub read : pairs ≡ row_pairs p T row side
  pub sum_fits : first_lost (bound_operations (costless p) B pairs) ≡ None

abbrev pub IsFinish : Problem → Boxes → Tableau → Finish → Type 0
IsFinish p B T (Least v m) = IsLeastHere p B T v.values m.pairs
IsFinish p B T (Never m) = IsNeverHere p B T m.pairs
IsFinish p B T (Stuck place) = UnfitAt fits p B T place

-- the end is true of a node's boxes and of the tableau after a path
abbrev pub IsFinishAfter : Problem → List Fixing → List (ℕ × ℕ) → Finish → Type 0
IsFinishAfter p fixings path f = IsFinish p (node_boxes p fixings) (tableau_after p path) f

-- the pivot is the rule's, or the end is true of the tableau
abbrev pub IsChoice : Problem → Boxes → Tableau → Choice → Type 0
IsChoice p B T (Pivot r c) = IsRuled (linear_program p) B T r c
IsChoice p B T (Done f) = IsFinish p B T f

-- the answer to an end after a path; where a number doesn't fit it has the multipliers of the cost row
abbrev pub answer_to : Tableau → List (ℕ × ℕ) → Finish → Relaxed
answer_to T path (Least v m) = AnswerLeast v m
answer_to T path (Never m) = AnswerNever m
answer_to T path (Stuck place) = AnswerStuck (record { path = path; at = place }) (record { pairs = multipliers_of T })
