-- What is given of an item and of the columns of names, so that rows over the columns may stand for the item.
use Rattle.std.specs.Prelude.{◌≡◌, ℕ, ◌+◌, ◌<◌, ◌≤◌, List, length}
use Rattle.hys_lin.specs.declared.form.Interval.{Interval}
use Rattle.hys_ast.specs.declared.source.Kind.TheVariants.{Real}
use Rattle.hys_prog.specs.declared.program.Role.TheVariants.{Aux}
use Rattle.hys_prog.specs.declared.program.Body.{Body}
use Rattle.hys_prog.specs.declared.program.Body.TheVariants.{Guard, Choice, Logic, Linear, NextBool, NextReal, OutBool, OutReal, MustHold, MustMost, MustZero}
use Rattle.hys_prog.specs.declared.program.Name.{Name}
use Rattle.hys_prog.specs.declared.program.ProgItem.{ProgItem}
use Rattle.hys_prog.specs.Programs.{NameAt, IsVariable, IsBooleanVariable, Has, BodyOver, Named}
use Rattle.hys_prog.specs.Orders.{MentionedIn}
use Rattle.hys_prog.specs.Steps.{OfName}
use Rattle.hys_formula.specs.Formulas.{tree_of}
use Rattle.hys_logic.specs.declared.usage.Use.TheVariants.{Read, Define, Require}
use Rattle.hys_logic.specs.Literals.{column_in}
use Rattle.hys_logic.specs.Meanings.{NamesWithin}
use Rattle.hys_logic.specs.Uses.{fresh_count}

-- The number of an item's fresh columns. That of a formula that defines a column is the same for each column.
abbrev pub fresh_in : List ℕ → Body → ℕ
fresh_in columns (Guard f e) = 0
fresh_in columns (Choice l a b) = fresh_count Read (column_in columns) (tree_of l)
fresh_in columns (Logic l) = fresh_count (Define 0) (column_in columns) (tree_of l)
fresh_in columns (Linear f) = 0
fresh_in columns (NextBool l) = fresh_count Read (column_in columns) (tree_of l)
fresh_in columns (NextReal f) = 0
fresh_in columns (OutBool l) = fresh_count Read (column_in columns) (tree_of l)
fresh_in columns (OutReal f) = 0
fresh_in columns (MustHold l) = fresh_count Require (column_in columns) (tree_of l)
fresh_in columns (MustMost f) = 0
fresh_in columns (MustZero f) = 0

-- each name of the body's formula has a column
abbrev pub FormulaWithin : List ℕ → Body → Type 0
FormulaWithin columns (Guard f e) = Unit {0}
FormulaWithin columns (Choice l a b) = NamesWithin columns (tree_of l)
FormulaWithin columns (Logic l) = NamesWithin columns (tree_of l)
FormulaWithin columns (Linear f) = Unit {0}
FormulaWithin columns (NextBool l) = NamesWithin columns (tree_of l)
FormulaWithin columns (NextReal f) = Unit {0}
FormulaWithin columns (OutBool l) = NamesWithin columns (tree_of l)
FormulaWithin columns (OutReal f) = Unit {0}
FormulaWithin columns (MustHold l) = NamesWithin columns (tree_of l)
FormulaWithin columns (MustMost f) = Unit {0}
FormulaWithin columns (MustZero f) = Unit {0}

-- each state, input and auxiliary has a column of its own
abbrev pub HaveOwn : List Name → List ℕ → Type 0
HaveOwn names columns =
    (n m : ℕ) → NameAt names n IsVariable → NameAt names m IsVariable → column_in columns n ≡ column_in columns m → n ≡ m

-- The columns of states, inputs and auxiliaries differ. Those of Boolean ones stand before the fresh columns, which are
-- so many from k on, and those of real auxiliaries behind them.
pub record AreColumns (names : List Name) (columns : List ℕ) (k count : ℕ) : Type 0 where
  pub long : length columns ≡ length names
  pub differ : HaveOwn names columns
  pub booleans : (n : ℕ) → NameAt names n IsBooleanVariable → column_in columns n < k
  pub reals : (n : ℕ) → NameAt names n (Has Aux Real) → k + count ≤ column_in columns n

-- the columns of Boolean states, inputs and auxiliaries are the same
abbrev pub AreAlike : List Name → List ℕ → List ℕ → Type 0
AreAlike names columns others = (n : ℕ) → NameAt names n IsBooleanVariable → column_in columns n ≡ column_in others n

-- each body over the names has as many fresh columns with the ones as with the others
abbrev pub HaveSameCounts : List Name → List ℕ → List ℕ → Type 0
HaveSameCounts names columns others = (b : Body) → BodyOver names b → fresh_in columns b ≡ fresh_in others b

-- The body is over the names, the item defines a name that its body suits, or none where it demands something, and the
-- name isn't mentioned in its own definition.
pub record IsItem (names : List Name) (t : ProgItem) : Type 0 where
  pub body : BodyOver names t.body
  pub named : Named names t.name t.body
  pub apart : OfName (λ n. ¬ (MentionedIn n t.body)) t.name

-- the item, the columns of names with its fresh ones from k on, and the intervals of names belong together
pub record Fits (names : List Name) (boxes : List Interval) (columns : List ℕ) (k : ℕ) (t : ProgItem) : Type 0 where
  pub placed : AreColumns names columns k (fresh_in columns t.body)
  pub item : IsItem names t
  pub long : length boxes ≡ length names

-- they do for some names
abbrev pub FitsNames : List Interval → List ℕ → ℕ → ProgItem → Type 0
FitsNames boxes columns k t = (names : List Name) × Fits names boxes columns k t

-- the columns of names and the fresh ones are below the number
pub record AreBelow (names : List Name) (columns : List ℕ) (k count total : ℕ) : Type 0 where
  pub named : (n : ℕ) → NameAt names n IsVariable → column_in columns n < total
  pub fresh : k + count ≤ total
