-- Literals, and which one stands for a formula.
use Rattle.std.specs.Prelude.{ℕ, ◌+◌, ◌<◌, List, Bool, true, false, not}
use Rattle.std.proofs.Common.{get_or}
use Rattle.hys_number.specs.Number.{Number}
use Rattle.hys_number.specs.Ops.{◌+ₙ◌, neg, whole}
use Rattle.hys_lin.specs.Sums.{Assignment}
use Rattle.hys_lin.specs.Bits.{bit}
use Rattle.hys_formula.specs.Formulas.{FormulaTree, constant, named, negated, joined, connectives}
use Rattle.hys_logic.specs.declared.literal.Literal.{Literal}
use Rattle.hys_logic.specs.declared.literal.Literal.TheVariants.{Fixed, Column}

-- the column of a name
abbrev pub column_in : List ℕ → ℕ → ℕ
column_in columns n = get_or columns n 0

-- what a literal has at its column: the column's number, or its negative
abbrev pub part_by : Bool → Number → Number
part_by true a = neg a
part_by false a = a

abbrev pub column_part : Literal → Assignment → Number
column_part (Fixed b) v = whole 0
column_part (Column c n) v = part_by n (v c)

-- what a literal has without its column: 1 where it is true or negated
abbrev pub constant_part : Literal → Number
constant_part (Fixed b) = bit b
constant_part (Column c n) = bit n

-- the number of a literal: that of its truth value, its column's, or 1 less this
abbrev pub number_of : Literal → Assignment → Number
number_of l v = column_part l v +ₙ constant_part l

abbrev pub opposite : Literal → Literal
opposite (Fixed b) = Fixed (not b)
opposite (Column c n) = Column c (not n)

-- the column of the literal, where it has one, is below k
abbrev pub LiteralBelow : ℕ → Literal → Type 0
LiteralBelow k (Fixed b) = Unit {0}
LiteralBelow k (Column c n) = c < k

-- the literal of a formula: p gives each name's column, k is the first fresh one, and each
-- connective takes the next in post-order
abbrev pub literal_of : (ℕ → ℕ) → ℕ → FormulaTree → Literal
literal_of p k (constant b) = Fixed b
literal_of p k (named n) = Column (p n) false
literal_of p k (negated f) = opposite (literal_of p k f)
literal_of p k (joined c f g) = Column (k + (connectives f + connectives g)) false
