-- What a formula is turned into rows for, which rows those are, and the truths that fresh columns have where they hold.
use Rattle.std.specs.Prelude.{◌≡◌, ℕ, ◌+◌, ◌*◌, ◌<◌, ◌≤◌, List, [], ◌∷◌, ◌++◌, length, Bool, true, false, Option, Some, None, Vec, pos, negsuc, ◌↔◌}
use Rattle.std.specs.declared.alloc.Global.{Global}
use Rattle.hys_lin.specs.declared.form.Row.{Row}
use Rattle.hys_lin.specs.Bits.{bit, IsBit}
use Rattle.hys_lin.specs.Stated.{Stated, AreRows}
use Rattle.hys_lin.specs.Sums.{Assignment, value, AreTerms, HoldAll}
use Rattle.hys_formula.specs.declared.formula.Formula.{Formula}
use Rattle.hys_formula.specs.Formulas.{FormulaTree, connectives, truth, tree_of, EachName}
use Rattle.hys_logic.specs.declared.literal.Literal.{Literal}
use Rattle.hys_logic.specs.declared.literal.Literal.TheVariants.{Fixed, Column}
use Rattle.hys_logic.specs.declared.literal.Logic.{Logic}
use Rattle.hys_logic.specs.declared.row.Sign.TheVariants.{Plus, Minus}
use Rattle.hys_logic.specs.declared.usage.Use.{Use}
use Rattle.hys_logic.specs.declared.usage.Use.TheVariants.{Read, Define, Require}
use Rattle.hys_logic.specs.Literals.{column_in, literal_of, LiteralBelow}
use Rattle.hys_logic.specs.Meanings.{HaveBits, truth_at}
use Rattle.hys_logic.specs.Rows.{form_of, pair_by, Added, Agrees, BitsFrom, fresh_of, stated_of}
use Rattle.hys_logic.specs.Tables.{is_short, table_of}

-- ---- fresh columns
-- the fresh truths of a short formula: its own where it is read off a fresh column
abbrev pub own_fresh : Use → Bool → List Bool
own_fresh Read t = t ∷ []
own_fresh (Define d) t = []
own_fresh Require t = []

abbrev pub fresh_if : Bool → Use → FormulaTree → Assignment → List Bool
fresh_if true u f w = own_fresh u (truth f w)
fresh_if false u f w = fresh_of f w

-- the truths that the fresh columns have where the rows hold; p gives each name's column, w each name's number
abbrev pub fresh_by : Use → (ℕ → ℕ) → FormulaTree → Assignment → List Bool
fresh_by u p f w = fresh_if (is_short p f) u f w

-- how many there are
abbrev pub own_count : Use → ℕ
own_count Read = 1
own_count (Define d) = 0
own_count Require = 0

abbrev pub count_if : Bool → Use → FormulaTree → ℕ
count_if true u f = own_count u
count_if false u f = connectives f

abbrev pub fresh_count : Use → (ℕ → ℕ) → FormulaTree → ℕ
fresh_count u p f = count_if (is_short p f) u f

-- ---- the literal
abbrev pub read_if : Bool → (ℕ → ℕ) → ℕ → FormulaTree → Literal
read_if true p k f = Column k false
read_if false p k f = literal_of p k f

-- the literal of a use, where one was read off: this one, the defined column, or true
abbrev pub literal_under : Use → Literal → Literal
literal_under Read l = l
literal_under (Define d) l = Column d false
literal_under Require l = Fixed true

-- the literal of the formula under a use
abbrev pub literal_by : Use → (ℕ → ℕ) → ℕ → FormulaTree → Literal
literal_by u p k f = literal_under u (read_if (is_short p f) p k f)

-- the same, where the names have these columns
abbrev pub literal_over : Use → List ℕ → ℕ → FormulaTree → Literal
literal_over u cs k f = literal_by u (column_in cs) k f

-- ---- rows
-- the rows that tie a literal to its use: d - l <= 0 and l - d <= 0, or -l <= -1
abbrev pub tied : Use → Literal → List Stated
tied Read l = []
tied (Define d) l = pair_by Plus (Column d false) Minus l (pos 0) ∷ pair_by Minus (Column d false) Plus l (pos 0) ∷ []
tied Require l = pair_by Minus l Plus (Fixed false) (negsuc 0) ∷ []

-- the target column of a short formula's table, where k is the first fresh one
abbrev pub target_of : Use → ℕ → Option ℕ
target_of Read k = Some k
target_of (Define d) k = Some d
target_of Require k = None

abbrev pub stated_if : Bool → Use → (ℕ → ℕ) → ℕ → FormulaTree → List Stated
stated_if true u p k f = table_of (target_of u k) p f
stated_if false u p k f = stated_of p k f ++ tied u (literal_of p k f)

-- the rows of a formula under a use
abbrev pub stated_by : Use → (ℕ → ℕ) → ℕ → FormulaTree → List Stated
stated_by u p k f = stated_if (is_short p f) u p k f

-- at most this many rows beside four a connective
abbrev pub extra_rows : Use → ℕ
extra_rows Read = 0
extra_rows (Define d) = 2
extra_rows Require = 1

-- the defined column is below n
abbrev pub UseBelow : ℕ → Use → Type 0
UseBelow n Read = Unit {0}
UseBelow n (Define d) = d < n
UseBelow n Require = Unit {0}

-- the rows that tie a literal were added
abbrev pub AddsTied : Use → Literal → List Row → List Row → Type 0
AddsTied u l old new = (n : ℕ) → UseBelow n u → LiteralBelow n l → Added old new (tied u l) n

-- the rows of a formula were added, and the next free column stands behind the fresh ones
abbrev pub AddsStated : Use → List ℕ → ℕ → FormulaTree → List Row → List Row → Type 0
AddsStated u cs k f old new =
    Added old new (stated_by u (column_in cs) k f) (k + fresh_count u (column_in cs) f)

abbrev pub IsNext : Use → List ℕ → ℕ → FormulaTree → ℕ → Type 0
IsNext u cs k f n = n ≡ k + fresh_count u (column_in cs) f

-- the rows of the code's formula were added to its list
abbrev pub AddsLogic : Use → List ℕ → ℕ → Formula → Vec Row Global → Vec Row Global → Type 0
AddsLogic u cs k l before after = AddsStated u cs k (tree_of l) before.items after.items

-- ---- meanings
-- the column is none of the formula's
abbrev pub IsApart : ℕ → List ℕ → FormulaTree → Type 0
IsApart d cs f = EachName (λ n. d ≡ column_in cs n → ⊥) f

-- the defined column is below k and no column of the formula
abbrev pub IsFree : Use → List ℕ → ℕ → FormulaTree → Type 0
IsFree Read cs k f = Unit {0}
IsFree (Define d) cs k f = (d < k) × IsApart d cs f
IsFree Require cs k f = Unit {0}

-- the defined column has 0 or 1
abbrev pub HasBit : Use → Assignment → Type 0
HasBit Read v = Unit {0}
HasBit (Define d) v = IsBit (v d)
HasBit Require v = Unit {0}

-- what the use wants of the truth: nothing, that it be the defined column's, or that it be true
abbrev pub Obeys : Use → Assignment → Bool → Type 0
Obeys Read v t = Unit {0}
Obeys (Define d) v t = v d ≡ bit t
Obeys Require v t = t ≡ true

-- the fresh columns have their truths, and the formula's truth is what the use wants
abbrev pub IsSolved : Use → List ℕ → ℕ → Assignment → FormulaTree → Type 0
IsSolved u cs k v f = Agrees v k (fresh_by u (column_in cs) f (λ n. v (column_in cs n))) × Obeys u v (truth_at cs v f)

-- for each choice of 0 or 1 for the names and the defined column the rows have a solution with 0 or 1 in the fresh columns
-- exactly where the use has what it wants, and then exactly one
abbrev pub HaveSolutions : Use → List ℕ → ℕ → FormulaTree → Logic → Type 0
HaveSolutions u cs k f l =
    (v : Assignment) → HaveBits cs v f → HasBit u v → BitsFrom v k l.fresh → HoldAll v l.rows ↔ IsSolved u cs k v f

-- there the literal is the formula's truth
abbrev pub HasTruth : Use → List ℕ → ℕ → FormulaTree → Logic → Type 0
HasTruth u cs k f l = (v : Assignment) → HaveBits cs v f → IsSolved u cs k v f → value l.literal v ≡ bit (truth_at cs v f)

-- the literal and the rows are the stated ones
abbrev pub HasLiteral : Use → List ℕ → ℕ → FormulaTree → Logic → Type 0
HasLiteral u cs k f l = l.literal ≡ form_of (literal_over u cs k f)

abbrev pub HasRows : Use → List ℕ → ℕ → FormulaTree → Logic → Type 0
HasRows u cs k f l = AreRows l.rows (stated_by u (column_in cs) k f)

-- at most four rows a connective, and those that tie the literal
abbrev pub AreFew : Use → FormulaTree → Logic → Type 0
AreFew u f l = length l.rows ≤ 4 * connectives f + extra_rows u

-- the literal has at most one term
abbrev pub IsSmall : Logic → Type 0
IsSmall l = AreTerms l.literal.terms × (length l.literal.terms ≤ 1)

-- ---- laws
-- the fresh truths are the same where the names' numbers are
abbrev pub SameTruths : Use → (ℕ → ℕ) → FormulaTree → Type 0
SameTruths u p f = (w x : Assignment) → EachName (λ n. w n ≡ x n) f → fresh_by u p f w ≡ fresh_by u p f x

-- there are as many as fresh columns
abbrev pub AreCounted : Use → (ℕ → ℕ) → FormulaTree → Type 0
AreCounted u p f = (w : Assignment) → length (fresh_by u p f w) ≡ fresh_count u p f

-- their number depends on the columns of the formula's names alone
abbrev pub SameCounts : Use → (ℕ → ℕ) → FormulaTree → Type 0
SameCounts u p f = (q : ℕ → ℕ) → EachName (λ n. p n ≡ q n) f → fresh_count u p f ≡ fresh_count u q f
