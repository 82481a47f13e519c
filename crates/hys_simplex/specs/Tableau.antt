-- Tableaux of a linear program and their pivots, as functions of places. With n columns and m rows the variables
-- are numbered: column j is j, the slack of row i is n + i, and the cost is n + m. Row m is that of the cost, which
-- is always basic there; column n is that of the constants.
use Rattle.std.specs.Prelude.{◌≡◌, ℕ, ◌+◌, ◌<◌, ◌≤◌, ◌==◌, if◌then◌else◌, ◌⊎◌, ◌↔◌, List, [], ◌∷◌}
use Rattle.hys_number.specs.Number.{Number}
use Rattle.hys_number.specs.Ops.{◌+ₙ◌, ◌*ₙ◌, ◌-ₙ◌, ◌/ₙ◌, neg, inverse, whole}
use Rattle.hys_number.specs.Sums.{sum_to}
use Rattle.hys_relax.specs.LinearProgram.{LinearProgram}
use Rattle.hys_relax.specs.declared.range.Var.{Var}
use Rattle.hys_relax.specs.declared.range.Var.TheVariants.{Column, Slack}

pub record Tableau : Type 0 where
  pub columns : ℕ
  pub rows : ℕ
  pub cell : ℕ → ℕ → Number
  -- the variable that is basic in a row
  pub basic : ℕ → ℕ
  -- the variable outside the basis that stands in a column
  pub outside : ℕ → ℕ

-- the number of a variable
abbrev pub variable_number : LinearProgram → Var → ℕ
variable_number P (Column j) = j
variable_number P (Slack i) = P.columns + i

-- the slack basis: row i holds the factors and the bound of row i, the cost row the negated factors and the
-- constant of the cost
abbrev pub start : LinearProgram → Tableau
start P = record {
  columns = P.columns;
  rows = P.rows;
  cell = λ i j. if i == P.rows then (if j == P.columns then P.constant else neg (P.cost j)) else (if j == P.columns then P.bound i else P.factor i j);
  basic = λ i. P.columns + i;
  outside = λ j. j;
}

-- the numbers with x at one place
abbrev pub put : (ℕ → ℕ) → ℕ → ℕ → ℕ → ℕ
put f at x i = if i == at then x else f i

-- the cells after a pivot at row r and column c with the cell p: that cell becomes 1 / p, the others of its row are
-- divided by p, the others of its column by -p, and each other cell loses its column's cell times its row's new one
abbrev pub pivoted : (ℕ → ℕ → Number) → ℕ → ℕ → ℕ → ℕ → Number
pivoted M r c i j =
    if i == r
    then (if j == c then inverse (M r c) else M r j /ₙ M r c)
    else (if j == c then M i c /ₙ neg (M r c) else M i j -ₙ M i c *ₙ (M r j /ₙ M r c))

-- a pivot exchanges the basic variable of the row with the variable of the column
abbrev pub pivot : Tableau → ℕ → ℕ → Tableau
pivot T r c = record T { cell = pivoted T.cell r c; basic = put T.basic r (T.outside c); outside = put T.outside c (T.basic r) }

-- the tableau after a path of pivots, each a row and a column
abbrev pub after : Tableau → List (ℕ × ℕ) → Tableau
after T [] = T
after T (p ∷ ps) = after (pivot T p.0 p.1) ps

-- each pivot is at a row and a column of the problem, and its cell isn't 0
abbrev pub ArePivots : Tableau → List (ℕ × ℕ) → Type 0
ArePivots T [] = Unit {0}
ArePivots T (p ∷ ps) = (p.0 < T.rows) × (p.1 < T.columns) × (¬ (T.cell p.0 p.1 ≡ whole 0)) × ArePivots (pivot T p.0 p.1) ps

-- ---- what a tableau says
-- the left side of row i: its basic variable and the cells times the variables outside
abbrev pub line : Tableau → (ℕ → Number) → ℕ → Number
line T v i = v (T.basic i) +ₙ sum_to T.columns (λ j. T.cell i j *ₙ v (T.outside j))

-- numbers for all variables that solve the rows
abbrev pub Solves : Tableau → (ℕ → Number) → Type 0
Solves T v = (i : ℕ) → i ≤ T.rows → line T v i ≡ T.cell i T.columns

-- 1 at the variable u, else 0
abbrev pub unit : ℕ → ℕ → Number
unit u j = if u == j then whole 1 else whole 0

-- the factor of the variable u in the left side of row i: 1 where it is basic there, its cell where it stands
-- outside, else 0
abbrev pub coef : Tableau → ℕ → ℕ → Number
coef T i u = line T (unit u) i

-- the multiplier of row k that is read off the cost row: the negated cost cell of the slack
abbrev pub cost_multiplier : LinearProgram → Tableau → ℕ → Number
cost_multiplier P T k = neg (coef T P.rows (P.columns + k))

-- the multipliers that are read off row r, with one sign for all: the cells of the slacks, and 1 for a basic slack
abbrev pub row_multiplier : LinearProgram → Tableau → ℕ → Number → ℕ → Number
row_multiplier P T r side k = side *ₙ coef T r (P.columns + k)

-- ---- what holds of every tableau that pivots reach from the start
-- row i as a sum of the rows of the start: the weights are the factors of the slacks, and the cost row counts once in
-- itself
abbrev pub mix : LinearProgram → Tableau → ℕ → (ℕ → Number) → Number
mix P T i f = sum_to P.rows (λ k. coef T i (P.columns + k) *ₙ f k) +ₙ (if i == P.rows then f P.rows else whole 0)

pub record IsMix (P : LinearProgram) (T : Tableau) : Type 0 where
  pub lines : (w : ℕ → Number) (i : ℕ) → i ≤ P.rows → line T w i ≡ mix P T i (line (start P) w)
  pub constants : (i : ℕ) → i ≤ P.rows → T.cell i T.columns ≡ mix P T i (λ k. (start P).cell k P.columns)

-- each variable stands in one row or in one column
pub record IsPlaced (n m : ℕ) (T : Tableau) : Type 0 where
  pub apart : (i j : ℕ) → i ≤ m → j < n → ¬ (T.basic i ≡ T.outside j)
  pub once : (j j' : ℕ) → j < n → j' < n → T.outside j ≡ T.outside j' → j ≡ j'
  pub basic_once : (i i' : ℕ) → i ≤ m → i' ≤ m → T.basic i ≡ T.basic i' → i ≡ i'
  pub somewhere : (u : ℕ) → u < n + m → ((i : ℕ) × (i < m) × (T.basic i ≡ u)) ⊎ ((j : ℕ) × (j < n) × (T.outside j ≡ u))
  pub goal : T.basic m ≡ n + m
  pub basic_in : (i : ℕ) → i < m → T.basic i < n + m
  pub outside_in : (j : ℕ) → j < n → T.outside j < n + m

-- a tableau of the program: of its size, each row a sum of the start's rows, with the start's solutions
pub record IsOf (P : LinearProgram) (T : Tableau) : Type 0 where
  pub wide : T.columns ≡ P.columns
  pub tall : T.rows ≡ P.rows
  pub mixes : IsMix P T
  pub placed : IsPlaced P.columns P.rows T
  pub keeps : (w : ℕ → Number) → Solves (start P) w ↔ Solves T w
