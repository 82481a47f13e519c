-- The rule of the ruled dual simplex method: which row leaves the basis and which column enters it.
use Rattle.std.specs.Prelude.{◌≡◌, ℕ, suc, ◌<◌, if◌then◌else◌, Some}
use Rattle.hys_number.specs.Number.{Number}
use Rattle.hys_number.specs.Ops.{◌*ₙ◌, neg, inverse, ◌<ₙ◌, whole}
use Rattle.hys_relax.specs.Node.{Boxes}
use Rattle.hys_relax.specs.LinearProgram.{LinearProgram}
use Rattle.hys_simplex.specs.Tableau.{Tableau, Solves}
use Rattle.hys_simplex.specs.Status.{Rises, raised, is_raised_above, lower, upper, InRange, IsOff, basic_value}

-- the range of the variable isn't one number
abbrev pub IsMovable : LinearProgram → Boxes → ℕ → Type 0
IsMovable P B u = ¬ (upper P B u ≡ Some (lower P B u))

-- 1 where the variable of column j stands at its upper end and so moves down, -1 where it moves up
abbrev pub raised_sign : LinearProgram → Tableau → ℕ → Number
raised_sign P T j = if is_raised_above P T j then whole 1 else neg (whole 1)

-- the column may enter: its variable's range isn't one number, and a move from its end into the range brings the basic
-- value of the leaving row, which is off its range on the given side, towards that range
pub record MayEnter (P : LinearProgram) (B : Boxes) (T : Tableau) (r : ℕ) (side : Number) (j : ℕ) : Type 0 where
  pub movable : IsMovable P B (T.outside j)
  pub toward : whole 0 <ₙ side *ₙ raised_sign P T j *ₙ T.cell r j

-- the raised ratio of column j: its raised cost cell over its cell in the leaving row, by the sign of the side; of a
-- column that may enter this is the ratio without its sign
abbrev pub ratio : LinearProgram → Tableau → ℕ → Number → ℕ → ℕ → Number
ratio P T r side j t = side *ₙ (raised P T j t *ₙ inverse (T.cell r j))

-- the entering column: of those that may enter it has the least raised ratio; no two have the same one
pub record IsEntering (P : LinearProgram) (B : Boxes) (T : Tableau) (r : ℕ) (side : Number) (c : ℕ) : Type 0 where
  pub column : c < P.columns
  pub enters : MayEnter P B T r side c
  pub least : (j : ℕ) → j < P.columns → MayEnter P B T r side j → ¬ (Rises (suc P.columns) (ratio P T r side j) (ratio P T r side c))

-- the leaving row: the first whose basic value is off its range, with the side and the end that it is off
pub record IsLeaving (P : LinearProgram) (B : Boxes) (T : Tableau) (r : ℕ) (side near : Number) : Type 0 where
  pub row : r < P.rows
  pub before : (i : ℕ) → i < r → InRange P B (T.basic i) (basic_value P B T i)
  pub off : IsOff P B (T.basic r) (basic_value P B T r) side near

-- the pivot is the rule's
pub record IsRuled (P : LinearProgram) (B : Boxes) (T : Tableau) (r c : ℕ) : Type 0 where
  pub side : Number
  pub near : Number
  pub leaving : IsLeaving P B T r side near
  pub entering : IsEntering P B T r side c

-- no column may enter
pub record IsBlocked (P : LinearProgram) (B : Boxes) (T : Tableau) (r : ℕ) (side near : Number) : Type 0 where
  pub leaving : IsLeaving P B T r side near
  pub closed : (j : ℕ) → j < P.columns → ¬ (MayEnter P B T r side j)

-- the basic value of row r can't be brought to its range by values of the variables outside in theirs
abbrev pub IsStranded : LinearProgram → Boxes → Tableau → ℕ → Number → Number → Type 0
IsStranded P B T r side near = (w : ℕ → Number) → Solves T w → ((j : ℕ) → j < P.columns → InRange P B (T.outside j) (w (T.outside j))) →
    IsOff P B (T.basic r) (w (T.basic r)) side near
