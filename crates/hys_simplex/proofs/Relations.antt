-- Statuses and pivots of the rule as relations, in the form in which the laws are proved.
use Rattle.std.specs.Prelude.{◌≡◌, ℕ, suc, ◌+◌, ◌<◌, Bool, true, false, ◌⊎◌, ◌↔◌, ℤ, pos, negsuc, zero, []}
use Rattle.std.proofs.Common.{◌∙◌, refl, ap₂, inl, inr}
use Rattle.hys_number.specs.Number.{Number}
use Rattle.hys_number.specs.Ops.{◌*ₙ◌, ◌-ₙ◌, neg, ◌≤ₙ◌, ◌<ₙ◌, whole}
use Rattle.hys_number.proofs.Ring.{by_ring, k, minus, ◌⊗◌}
use Rattle.hys_lin.specs.declared.form.Interval.{Interval}
use Rattle.hys_relax.specs.Node.{Boxes, Inside}
use Rattle.hys_relax.specs.LinearProgram.{LinearProgram}
use Rattle.hys_simplex.specs.Tableau.{Tableau, Solves}
use Rattle.hys_simplex.specs.Status.{IsPositive, raised, place_var}

-- ---- by cost cells
-- the end at which a column outside the basis stands, by the sign of its cost cell
abbrev pub AtEnd : ℤ → Interval → Number → Type 0
AtEnd (pos zero) b x = (x ≡ b.low) ⊎ (x ≡ b.high)
AtEnd (pos (suc n)) b x = x ≡ b.high
AtEnd (negsuc n) b x = x ≡ b.low

-- the values of all variables in a status with either end where the cost cell is 0
pub record IsStatus (P : LinearProgram) (B : Boxes) (T : Tableau) (w : ℕ → Number) : Type 0 where
  pub solves : Solves T w
  pub slacks : (j i : ℕ) → j < P.columns → i < P.rows → T.outside j ≡ P.columns + i → w (P.columns + i) ≡ whole 0
  pub ends : (j : ℕ) → j < P.columns → T.outside j < P.columns → AtEnd (T.cell P.rows j).num (B (T.outside j)) (w (T.outside j))

abbrev pub SignOf : Bool → Number → Type 0
SignOf true a = Unit {0}
SignOf false a = a ≤ₙ whole 0

-- the cost cell of each slack outside, of a row that is no equation, is at most 0
abbrev pub HasSigns : LinearProgram → Tableau → Type 0
HasSigns P T = (j i : ℕ) → j < P.columns → i < P.rows → T.outside j ≡ P.columns + i → SignOf (P.equation i) (T.cell P.rows j)

abbrev pub SlackIn : Bool → Number → Type 0
SlackIn true s = s ≡ whole 0
SlackIn false s = whole 0 ≤ₙ s

abbrev pub IsFeasible : LinearProgram → Boxes → (ℕ → Number) → Type 0
IsFeasible P B w = Inside P.columns B w × ((i : ℕ) → i < P.rows → SlackIn (P.equation i) (w (P.columns + i)))

-- ---- by raised cost cells
-- the raised cost of a point: its cost and its columns
abbrev pub raised_cost : LinearProgram → (ℕ → Number) → ℕ → Number
raised_cost P w t = w (place_var P t)

-- the values of all variables in the status with the ends that the raised cost cells want
pub record StandsAtEnds (P : LinearProgram) (B : Boxes) (T : Tableau) (w : ℕ → Number) : Type 0 where
  pub solves : Solves T w
  pub slacks : (j i : ℕ) → j < P.columns → i < P.rows → T.outside j ≡ P.columns + i → w (P.columns + i) ≡ whole 0
  pub high : (j : ℕ) → j < P.columns → T.outside j < P.columns → IsPositive (suc P.columns) (raised P T j) → w (T.outside j) ≡ (B (T.outside j)).high
  pub low : (j : ℕ) → j < P.columns → T.outside j < P.columns → IsPositive (suc P.columns) (λ t. neg (raised P T j t)) → w (T.outside j) ≡ (B (T.outside j)).low

-- the box of the variable in column j isn't one number; the slack of an equation counts as one number
pub data CanMove (P : LinearProgram) (B : Boxes) (T : Tableau) (j : ℕ) : Type 0 where
  column : T.outside j < P.columns → (B (T.outside j)).low <ₙ (B (T.outside j)).high → CanMove P B T j
  slack : (i : ℕ) → i < P.rows → T.outside j ≡ P.columns + i → P.equation i ≡ false → CanMove P B T j

abbrev pub IsSign : Number → Type 0
IsSign s = (s ≡ whole 1) ⊎ (s ≡ neg (whole 1))

pub square : {s : Number} → IsSign s → s *ₙ s ≡ whole 1
square (inl e) = ap₂ ◌*ₙ◌ e e ∙ by_ring [] (k 1 ⊗ k 1) (k 1) refl
square (inr e) = ap₂ ◌*ₙ◌ e e ∙ by_ring [] (minus (k 1) ⊗ minus (k 1)) (k 1) refl

-- the pivot at (r, c) is the rule's: row r's basic value is off its box on one side, and c is of least ratio among the
-- columns that may enter
pub record KeepsRule (P : LinearProgram) (B : Boxes) (T : Tableau) (w : ℕ → Number) (r c : ℕ) (side near dir : Number) : Type 0 where
  pub side_sign : IsSign side
  pub off : whole 0 <ₙ side *ₙ (near -ₙ w (T.basic r))
  pub dir_sign : IsSign dir
  pub stands : IsPositive (suc P.columns) (λ t. dir *ₙ raised P T c t)
  pub toward : whole 0 <ₙ side *ₙ dir *ₙ T.cell r c
  pub least : (j : ℕ) (s : Number) → j < P.columns → ¬ (j ≡ c) → CanMove P B T j → IsSign s → IsPositive (suc P.columns) (λ t. s *ₙ raised P T j t) →
      whole 0 <ₙ side *ₙ s *ₙ T.cell r j →
      IsPositive (suc P.columns) (λ t. (side *ₙ s *ₙ T.cell r j) *ₙ (dir *ₙ raised P T c t) -ₙ (side *ₙ dir *ₙ T.cell r c) *ₙ (s *ₙ raised P T j t)) → ⊥

-- the end that the leaving variable was off: side is 1 where its value is below its box, and -1 where it is above
pub data NearEnd (P : LinearProgram) (B : Boxes) (T : Tableau) (r : ℕ) (side near : Number) : Type 0 where
  low_end : T.basic r < P.columns → side ≡ whole 1 → near ≡ (B (T.basic r)).low → NearEnd P B T r side near
  high_end : T.basic r < P.columns → side ≡ neg (whole 1) → near ≡ (B (T.basic r)).high → NearEnd P B T r side near
  slack_end : (i : ℕ) → i < P.rows → T.basic r ≡ P.columns + i → (P.equation i ≡ false → side ≡ whole 1) → near ≡ whole 0 → NearEnd P B T r side near

abbrev pub IsOrdered : ℕ → Boxes → Type 0
IsOrdered n B = (j : ℕ) → j < n → (B j).low ≤ₙ (B j).high

-- two tableaux with the same basic variables and ends
pub record SameEnds (P : LinearProgram) (T T' : Tableau) : Type 0 where
  pub basics : (i : ℕ) → i < P.rows → T.basic i ≡ T'.basic i
  pub ends : (j j' : ℕ) → j < P.columns → j' < P.columns → T.outside j < P.columns → T.outside j ≡ T'.outside j' →
      IsPositive (suc P.columns) (raised P T j) ↔ IsPositive (suc P.columns) (raised P T' j')

-- no column may enter for row r, whose basic value is off its box
pub record NoneEnters (P : LinearProgram) (B : Boxes) (T : Tableau) (w : ℕ → Number) (r : ℕ) (side near : Number) : Type 0 where
  pub side_sign : IsSign side
  pub at : NearEnd P B T r side near
  pub off : whole 0 <ₙ side *ₙ (near -ₙ w (T.basic r))
  pub closed : (j : ℕ) (d : Number) → j < P.columns → CanMove P B T j → IsSign d → IsPositive (suc P.columns) (λ t. d *ₙ raised P T j t) → whole 0 <ₙ side *ₙ d *ₙ T.cell r j → ⊥
