-- What the rows of a formula mean, over the columns of its names and the fresh columns of its connectives.
use Rattle.std.specs.Prelude.{ℕ, ◌+◌, ◌<◌, List, length, Bool}
use Rattle.hys_lin.specs.declared.form.Row.{Row}
use Rattle.hys_lin.specs.Sums.{Assignment, EachColumn}
use Rattle.hys_lin.specs.Bits.{IsBit}
use Rattle.hys_lin.specs.Stated.{EachBelow}
use Rattle.hys_formula.specs.declared.formula.Connective.{Connective}
use Rattle.hys_formula.specs.Formulas.{FormulaTree, connectives, EachName, truth}
use Rattle.hys_logic.specs.declared.literal.Literal.{Literal}
use Rattle.hys_logic.specs.declared.literal.Logic.{Logic}
use Rattle.hys_logic.specs.Literals.{column_in}
use Rattle.hys_logic.specs.Rows.{Added, stated_of, connective_stated}

-- each name of the formula has a column, which is below k
abbrev pub HaveColumns : List ℕ → ℕ → FormulaTree → Type 0
HaveColumns cs k f = EachName (λ n. (n < length cs) × (column_in cs n < k)) f

-- each name of the formula has a column
abbrev pub NamesWithin : List ℕ → FormulaTree → Type 0
NamesWithin cs f = EachName (λ n. n < length cs) f

-- the columns of the formula's names have 0 or 1
abbrev pub HaveBits : List ℕ → Assignment → FormulaTree → Type 0
HaveBits cs v f = EachName (λ n. IsBit (v (column_in cs n))) f

-- the truth of the formula where each name has the number of its column
abbrev pub truth_at : List ℕ → Assignment → FormulaTree → Bool
truth_at cs v f = truth f (λ n. v (column_in cs n))

-- the rows and the literal name columns below the first that is free behind the fresh ones
abbrev pub IsBelow : ℕ → Logic → Type 0
IsBelow k l = EachBelow k l.rows × EachColumn (λ c. c < k) l.literal.terms

-- the rows of the formula, or of a connective between two literals, were added
abbrev pub AddsFormula : List ℕ → ℕ → FormulaTree → List Row → List Row → Type 0
AddsFormula cs k f old new = Added old new (stated_of (column_in cs) k f) (k + connectives f)

abbrev pub AddsConnective : Connective → Literal → Literal → ℕ → List Row → List Row → Type 0
AddsConnective c a b r old new = Added old new (connective_stated c a b r) (r + 1)
