-- Ruled paths of pivots at a node.
use Rattle.std.specs.Prelude.{ℕ, ◌+◌, ◌*◌, ◌^◌, ◌≤◌, List, [], ◌∷◌, length, take}
use Rattle.hys_number.specs.Number.{Number}
use Rattle.hys_number.specs.Ops.{◌≤ₙ◌}
use Rattle.hys_lin.specs.declared.problem.Problem.{Problem}
use Rattle.hys_relax.specs.Node.{Boxes, node_boxes}
use Rattle.hys_relax.specs.LinearProgram.{LinearProgram, linear_program}
use Rattle.hys_relax.specs.Bound.{bound_of, IsSigned}
use Rattle.hys_relax.specs.declared.fixing.Fixing.{Fixing}
use Rattle.hys_simplex.specs.Tableau.{Tableau, start, pivot, after, cost_multiplier}
use Rattle.hys_simplex.specs.Status.{IsOff, basic_value}
use Rattle.hys_simplex.specs.Rule.{IsRuled}

-- each pivot is the rule's over the boxes of some level from `from` to `top`, and never over those of a level above the
-- one whose boxes counted for the pivot before
abbrev pub RulesPath : LinearProgram → (ℕ → Boxes) → (from top : ℕ) → Tableau → List (ℕ × ℕ) → Type 0
RulesPath P level from top T [] = Unit {0}
RulesPath P level from top T (p ∷ ps) =
    (k : ℕ) × (from ≤ k) × (k ≤ top) × IsRuled P (level k) T p.0 p.1 × RulesPath P level k top (pivot T p.0 p.1) ps

-- the boxes of the nodes above a node, by their depth
abbrev pub levels : Problem → List Fixing → ℕ → Boxes
levels p fixings k = node_boxes p (take k fixings)

-- the path is ruled at the node, from the slack basis on
abbrev pub IsPathAt : Problem → List Fixing → List (ℕ × ℕ) → Type 0
IsPathAt p fixings path = RulesPath (linear_program p) (levels p fixings) 0 (length fixings) (start (linear_program p)) path

-- the tableau of a problem after a path
abbrev pub tableau_after : Problem → List (ℕ × ℕ) → Tableau
tableau_after p path = after (start (linear_program p)) path

-- each pivot is the rule's over the same boxes
abbrev pub IsRun : LinearProgram → Boxes → Tableau → List (ℕ × ℕ) → Type 0
IsRun P B T [] = Unit {0}
IsRun P B T (p ∷ ps) = IsRuled P B T p.0 p.1 × IsRun P B (pivot T p.0 p.1) ps

-- no more statuses than this are there: of each row its basic variable, of each column its variable and its end
abbrev pub status_count : LinearProgram → ℕ
status_count P = (2 * (P.columns + P.rows) + 2) ^ (P.rows + P.columns)

-- ---- what a ruled path keeps
-- the basic value of row r is off its range
pub record IsOutside (P : LinearProgram) (B : Boxes) (T : Tableau) (r : ℕ) : Type 0 where
  pub side : Number
  pub near : Number
  pub off : IsOff P B (T.basic r) (basic_value P B T r) side near

-- a lawful path: the multipliers of the cost row are lawful at the start and after every pivot, each pivot's row has
-- its basic value off its range just before the pivot, and no pivot lowers the bound of the cost row's multipliers
abbrev pub IsLawfulPath : LinearProgram → (ℕ → Boxes) → (from top : ℕ) → Tableau → List (ℕ × ℕ) → Type 0
IsLawfulPath P level from top T [] = IsSigned P (cost_multiplier P T)
IsLawfulPath P level from top T (p ∷ ps) =
    IsSigned P (cost_multiplier P T)
    × ((k : ℕ) × (from ≤ k) × (k ≤ top) × IsOutside P (level k) T p.0
    × (bound_of P (level k) (cost_multiplier P T) ≤ₙ bound_of P (level k) (cost_multiplier P (pivot T p.0 p.1)))
    × IsLawfulPath P level k top (pivot T p.0 p.1) ps)
