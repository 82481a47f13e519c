-- What the laws of this crate say.
use Rattle.std.specs.Prelude.{◌≡◌, ℕ, suc, ◌<◌, ◌≤◌, ◌↔◌, List, [], ◌∷◌, ◌++◌, length, take, Some, Bool, ◌⊎◌}
use Rattle.hys_number.specs.Number.{Number}
use Rattle.hys_number.specs.Ops.{◌≤ₙ◌, ◌/ₙ◌, ◌<ₙ◌, neg, whole, fits}
use Rattle.hys_lin.specs.Sums.{at, value}
use Rattle.hys_lin.specs.Operations.{first_lost}
use Rattle.hys_lin.specs.declared.lost.Lost.{Lost}
use Rattle.hys_lin.specs.declared.problem.Problem.{Problem}
use Rattle.hys_lin.specs.Problem.{IsProblem}
use Rattle.hys_relax.specs.Node.{Boxes, IsNode, node_boxes, RelaxedPoint, IsLeastRelaxed}
use Rattle.hys_relax.specs.LinearProgram.{LinearProgram, linear_program}
use Rattle.hys_relax.specs.Bound.{multiplier, AreMultipliers, AreLawful, bound_of, node_bound, costless, plain_bound}
use Rattle.hys_relax.specs.Worked.{worked}
use Rattle.hys_relax.specs.declared.fixing.Fixing.{Fixing}
use Rattle.hys_relax.specs.declared.range.TablePlace.{TablePlace}
use Rattle.hys_relax.specs.declared.range.TablePlace.TheVariants.{Cell, Value, Sum}
use Rattle.hys_simplex.specs.Tableau.{Tableau, start, pivot, after, ArePivots, Solves, IsOf, cost_multiplier}
use Rattle.hys_simplex.specs.Status.{Rises, IsDualFeasible, InRange, basic_value, AllInside, IsSameStatus, status_value, status_point, place_var}
use Rattle.hys_simplex.specs.Rule.{IsLeaving, IsRuled, IsBlocked, IsStranded}
use Rattle.hys_simplex.specs.Path.{levels, IsPathAt, tableau_after, IsRun, IsLawfulPath, status_count}
use Rattle.hys_simplex.specs.Unfit.{SomeUnfit, cost_pairs, row_pairs, UnfitAt, Unfit}
use Rattle.hys_simplex.specs.Alike.{IsAlike}
use Rattle.hys_simplex.specs.Worked.{program, root_path, without, with_first, upward, upward_node, four, five, decaying, tripled, equated, costly, doubled, dear, sunk}

-- no box is empty
abbrev pub AreOrdered : ℕ → Boxes → Type 0
AreOrdered n B = (j : ℕ) → j < n → (B j).low ≤ₙ (B j).high

-- a tableau of the program whose raised multipliers are lawful
pub record IsReached (P : LinearProgram) (T : Tableau) : Type 0 where
  pub of : IsOf P T
  pub feasible : IsDualFeasible P T

-- a pivot keeps the solutions of the rows
abbrev pub PivotKeeps : Type 0
PivotKeeps = (T : Tableau) (r c : ℕ) (w : ℕ → Number) → r < T.rows → c < T.columns → ¬ (T.cell r c ≡ whole 0) → Solves T w ↔ Solves (pivot T r c) w

-- what a ruled path at a node reaches, and that its pivots are at cells that aren't 0
abbrev pub PathReaches : Type 0
PathReaches = (p : Problem) (fixings : List Fixing) (path : List (ℕ × ℕ)) → IsProblem p → IsPathAt p fixings path →
    IsReached (linear_program p) (tableau_after p path) × ArePivots (start (linear_program p)) path

-- a pivot of the rule keeps this
abbrev pub RuledReaches : Type 0
RuledReaches = (P : LinearProgram) (B : Boxes) (T : Tableau) (r c : ℕ) → AreOrdered P.columns B → IsReached P T → IsRuled P B T r c →
    IsReached P (pivot T r c) × (¬ (T.cell r c ≡ whole 0))

-- the rule picks at most one pivot
abbrev pub OneRuled : Type 0
OneRuled = (P : LinearProgram) (B : Boxes) (T : Tableau) (r c r' c' : ℕ) → IsOf P T → AreOrdered P.columns B → IsRuled P B T r c → IsRuled P B T r' c' →
    (r ≡ r') × (c ≡ c')

-- the cost row's multipliers are lawful, and their bound over any boxes is the cost of the status
pub record CostRowShows (p : Problem) (B : Boxes) (T : Tableau) : Type 0 where
  pub rise : AreMultipliers (cost_pairs p T)
  pub lawful : AreLawful p (cost_pairs p T)
  pub bound : bound_of (linear_program p) B (multiplier (cost_pairs p T)) ≡ value p.cost (at (status_point (linear_program p) B T))

abbrev pub CostRow : Type 0
CostRow = (p : Problem) (B : Boxes) (T : Tableau) → IsProblem p → IsReached (linear_program p) T → CostRowShows p B T

-- a pivot of the rule raises the list of the status's cost and columns, compared place by place, and doesn't lower the
-- bound of the cost row's multipliers
abbrev pub raised_values : LinearProgram → Boxes → Tableau → ℕ → Number
raised_values P B T t = status_value P B T (place_var P t)

abbrev pub RuledRises : Type 0
RuledRises = (P : LinearProgram) (B : Boxes) (T : Tableau) (r c : ℕ) → AreOrdered P.columns B → IsReached P T → IsRuled P B T r c →
    Rises (suc P.columns) (raised_values P B T) (raised_values P B (pivot T r c))
    × (bound_of P B (cost_multiplier P T) ≤ₙ bound_of P B (cost_multiplier P (pivot T r c)))

-- a ruled path is lawful
abbrev pub RuledIsLawful : Type 0
RuledIsLawful = (p : Problem) (fixings : List Fixing) (path : List (ℕ × ℕ)) → IsProblem p → IsPathAt p fixings path →
    IsLawfulPath (linear_program p) (levels p fixings) 0 (length fixings) (start (linear_program p)) path

-- after a ruled path at a node the bound there of the cost row's multipliers is at least the plain bound
abbrev pub BoundAfterPath : Type 0
BoundAfterPath = (p : Problem) (fixings : List Fixing) (path : List (ℕ × ℕ)) → IsProblem p → IsNode p fixings → IsPathAt p fixings path →
    plain_bound p ≤ₙ node_bound p fixings (cost_pairs p (tableau_after p path))

-- a ruled path at a node is one at each node below, and goes on by pivots of the rule over the node's boxes
abbrev pub PathBelow : Type 0
PathBelow = (p : Problem) (k : ℕ) (fixings : List Fixing) (path : List (ℕ × ℕ)) → k ≤ length fixings → IsPathAt p (take k fixings) path → IsPathAt p fixings path

abbrev pub PathGoesOn : Type 0
PathGoesOn = (p : Problem) (fixings : List Fixing) (path more : List (ℕ × ℕ)) → IsPathAt p fixings path →
    IsRun (linear_program p) (node_boxes p fixings) (tableau_after p path) more → IsPathAt p fixings (path ++ more)

-- among pivots of the rule over the same boxes no status comes twice, and there are fewer pivots than statuses
abbrev pub NoStatusTwice : Type 0
NoStatusTwice = (P : LinearProgram) (B : Boxes) (T : Tableau) (run : List (ℕ × ℕ)) (i j : ℕ) → AreOrdered P.columns B → IsReached P T → IsRun P B T run →
    i < j → j ≤ length run → ¬ (IsSameStatus P (after T (take i run)) (after T (take j run)))

abbrev pub RunEnds : Type 0
RunEnds = (P : LinearProgram) (B : Boxes) (T : Tableau) (run : List (ℕ × ℕ)) → AreOrdered P.columns B → IsReached P T → IsRun P B T run → length run < status_count P

-- where no column may enter for row r, the multipliers of the row show that no point exists
pub record RowShowsNone (p : Problem) (B : Boxes) (T : Tableau) (r : ℕ) (side near : Number) : Type 0 where
  pub rise : AreMultipliers (row_pairs p T r side)
  pub lawful : AreLawful p (row_pairs p T r side)
  pub above : whole 0 <ₙ bound_of (linear_program (costless p)) B (multiplier (row_pairs p T r side))
  pub stranded : IsStranded (linear_program p) B T r side near

abbrev pub BlockedRow : Type 0
BlockedRow = (p : Problem) (B : Boxes) (T : Tableau) (r : ℕ) (side near : Number) → AreOrdered (length p.boxes) B → IsReached (linear_program p) T →
    IsBlocked (linear_program p) B T r side near → RowShowsNone p B T r side near

-- where every basic value is inside, the status's point is a relaxed point of least cost, which is the bound
pub record PointIsLeast (p : Problem) (fixings : List Fixing) (T : Tableau) : Type 0 where
  pub least : IsLeastRelaxed p fixings (status_point (linear_program p) (node_boxes p fixings) T)
  pub cost : value p.cost (at (status_point (linear_program p) (node_boxes p fixings) T)) ≡ node_bound p fixings (cost_pairs p T)

abbrev pub AllInsideIsLeast : Type 0
AllInsideIsLeast = (p : Problem) (fixings : List Fixing) (T : Tableau) → IsProblem p → IsReached (linear_program p) T → AllInside (linear_program p) (node_boxes p fixings) T →
    PointIsLeast p fixings T

-- a row that can't be brought to its range shows that the node has no relaxed point
abbrev pub StrandedShowsNone : Type 0
StrandedShowsNone = (p : Problem) (fixings : List Fixing) (T : Tableau) (r : ℕ) (side near : Number) (v : List Number) → IsProblem p → IsOf (linear_program p) T → r < length p.rows →
    IsStranded (linear_program p) (node_boxes p fixings) T r side near → RelaxedPoint p fixings v → ⊥

-- which rows are known to be inside where a number doesn't fit: under a cell the next pivot is the rule's, under a value no
-- row before it is outside, and under a sum no row at all or none before the one that can't be brought to its range
abbrev pub RuledPlace : Problem → Boxes → Tableau → TablePlace → Type 0
RuledPlace p B T (Cell i j) = (r : ℕ) × (c : ℕ) × IsRuled (linear_program p) B T r c
RuledPlace p B T (Value i) = (q : ℕ) → q < i → q < length p.rows → InRange (linear_program p) B (T.basic q) (basic_value (linear_program p) B T q)
RuledPlace p B T Sum = AllInside (linear_program p) B T ⊎ ((r : ℕ) × (side : Number) × (near : Number) × IsLeaving (linear_program p) B T r side near × IsStranded (linear_program p) B T r side near)

abbrev pub UnfitIsRuled : Type 0
UnfitIsRuled = (fits : Number → Bool) (p : Problem) (fixings : List Fixing) (path : List (ℕ × ℕ)) (place : TablePlace) → Unfit fits p fixings path place →
    IsPathAt p fixings path × RuledPlace p (node_boxes p fixings) (tableau_after p path) place

-- what two tableaux that agree at their places have in common
pub record SaysTheSame (p : Problem) (B : Boxes) (T T' : Tableau) : Type 0 where
  pub ruled : (r c : ℕ) → IsRuled (linear_program p) B T r c ↔ IsRuled (linear_program p) B T' r c
  pub blocked : (r : ℕ) (side near : Number) → IsBlocked (linear_program p) B T r side near ↔ IsBlocked (linear_program p) B T' r side near
  pub values : (i : ℕ) → i ≤ length p.rows → basic_value (linear_program p) B T i ≡ basic_value (linear_program p) B T' i
  pub inside : AllInside (linear_program p) B T ↔ AllInside (linear_program p) B T'
  pub point : status_point (linear_program p) B T ≡ status_point (linear_program p) B T'
  pub pairs : cost_pairs p T ≡ cost_pairs p T'
  pub unfit : (fits : Number → Bool) (place : TablePlace) → UnfitAt fits p B T place ↔ UnfitAt fits p B T' place

abbrev pub AlikeSay : Type 0
AlikeSay = (p : Problem) (B : Boxes) (T T' : Tableau) → IsAlike T T' → T.columns ≡ length p.boxes → T.rows ≡ length p.rows → SaysTheSame p B T T'

abbrev pub AlikePivots : Type 0
AlikePivots = (T T' : Tableau) (r c : ℕ) → IsAlike T T' → r < T.rows → c < T.columns → IsAlike (pivot T r c) (pivot T' r c)

-- what a sum shows as lost is a number of it that doesn't fit
abbrev pub LostIsUnfit : Type 0
LostIsUnfit = (os : List Lost) (lost : Lost) → first_lost os ≡ Some lost → SomeUnfit fits os

-- the worked problem's paths at the root and at its two children, with their points and costs
pub record WorkedPaths : Type 0 where
  pub root : IsPathAt worked [] root_path
  pub root_inside : AllInside program (node_boxes worked []) (tableau_after worked root_path)
  pub root_point : status_point program (node_boxes worked []) (tableau_after worked root_path) ≡ whole 0 ∷ (whole 2 /ₙ whole 3) ∷ whole 1 ∷ whole 4 ∷ []
  pub root_bound : node_bound worked [] (cost_pairs worked (tableau_after worked root_path)) ≡ neg (whole 4)
  pub first_at_0 : IsPathAt worked without (root_path ++ (1, 3) ∷ [])
  pub inside_at_0 : AllInside program (node_boxes worked without) (tableau_after worked (root_path ++ (1, 3) ∷ []))
  pub bound_at_0 : node_bound worked without (cost_pairs worked (tableau_after worked (root_path ++ (1, 3) ∷ []))) ≡ neg (whole 2)
  pub first_at_1 : IsPathAt worked with_first (root_path ++ (1, 1) ∷ [])
  pub inside_at_1 : AllInside program (node_boxes worked with_first) (tableau_after worked (root_path ++ (1, 1) ∷ []))
  pub bound_at_1 : node_bound worked with_first (cost_pairs worked (tableau_after worked (root_path ++ (1, 1) ∷ []))) ≡ neg (whole 4)
  -- over the root's boxes the rule would go on from there, but a path doesn't go back up
  pub upward : IsRuled program (node_boxes worked []) (tableau_after worked (root_path ++ (1, 1) ∷ [])) 1 1
  pub not_upward : ¬ (IsPathAt worked with_first (root_path ++ (1, 1) ∷ (1, 1) ∷ []))

-- why a path doesn't go back up: over the root's boxes the rule would go on from a path at the node, and then the bound
-- of the cost row's multipliers at the node would be below the plain bound
pub record UpwardPath : Type 0 where
  pub ruled : IsPathAt upward upward_node four
  pub goes_on : IsRuled (linear_program upward) (node_boxes upward []) (tableau_after upward four) 0 2
  pub plain : plain_bound upward ≡ neg (whole 5)
  pub bound : node_bound upward upward_node (cost_pairs upward (tableau_after upward five)) ≡ neg (whole 191 /ₙ whole 36)
  pub not_ruled : ¬ (IsPathAt upward upward_node five)

-- numbers that don't fit: in the tripled problem the first basic value at the start; in the decaying problem, after its first pivot, the cube of the factor in the last row under the
-- second; and none at once, nor ever at a cell of the worked problem after its path
pub record WorkedUnfit : Type 0 where
  pub value : Unfit fits tripled [] [] (Value 0)
  pub cube : Unfit fits decaying [] ((0, 2) ∷ []) (Cell 2 0)
  pub not_at_once : ¬ (Unfit fits worked [] [] (Cell 0 0))
  pub not_after : (i j : ℕ) → ¬ (Unfit fits worked [] root_path (Cell i j))
  -- where all basic values are inside: a row's sum at the point, the cost at it, and the bound's sum
  pub point_sum : Unfit fits doubled [] [] (Value 0)
  pub point_cost : Unfit fits dear [] [] (Value 0)
  pub bound_sum : Unfit fits dear [] [] Sum
  -- the sum of a row that can't be brought to its range; it has cost 0
  pub row_sum : Unfit fits sunk [] [] Sum
  pub without_cost : ¬ (Unfit fits costly [] [] Sum)

-- the slack of an equation never enters, though its ratio is the least
pub record EquationSlack : Type 0 where
  pub first : IsPathAt equated [] ((0, 0) ∷ [])
  pub ruled : IsRuled (linear_program equated) (node_boxes equated []) (tableau_after equated ((0, 0) ∷ [])) 1 1
  pub not_slack : ¬ (IsRuled (linear_program equated) (node_boxes equated []) (tableau_after equated ((0, 0) ∷ [])) 1 0)
