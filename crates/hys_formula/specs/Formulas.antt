-- Formulas without pointers, their names and connectives, and their truth.
use Rattle.std.specs.Prelude.{ℕ, suc, ◌+◌, Bool, true, false, ◌&&◌, ◌||◌, not, pos}
use Rattle.std.proofs.Common.{eqb, int_eq}
use Rattle.hys_number.specs.Number.{Number}
use Rattle.hys_lin.specs.Bits.{is_one}
use Rattle.hys_lin.specs.Sums.{Assignment}
use Rattle.hys_formula.specs.declared.formula.Connective.{Connective}
use Rattle.hys_formula.specs.declared.formula.Connective.TheVariants.{And, Or, Iff, Then, From}
use Rattle.hys_formula.specs.declared.formula.Formula.{Formula}
use Rattle.hys_formula.specs.declared.formula.Formula.TheVariants.{Const, Name, Not', Join'}

-- a formula without pointers
pub data FormulaTree : Type 0 where
  constant : Bool → FormulaTree
  named : ℕ → FormulaTree
  negated : FormulaTree → FormulaTree
  joined : Connective → FormulaTree → FormulaTree → FormulaTree

abbrev pub tree_of : Formula → FormulaTree
tree_of (Const b) = constant b
tree_of (Name n) = named n
tree_of (Not' q f) = negated (tree_of f)
tree_of (Join' c q f r g) = joined c (tree_of f) (tree_of g)

-- ---- truth
abbrev pub same : Bool → Bool → Bool
same true b = b
same false b = not b

abbrev pub connect : Connective → Bool → Bool → Bool
connect And a b = a && b
connect Or a b = a || b
connect Iff a b = same a b
connect Then a b = not a || b
connect From a b = a || not b

-- the truth of a formula where a name is true if its number is 1
abbrev pub truth : FormulaTree → Assignment → Bool
truth (constant b) w = b
truth (named n) w = is_one (w n)
truth (negated f) w = not (truth f w)
truth (joined c f g) w = connect c (truth f w) (truth g w)

-- ---- what a formula is made of
-- each name of the formula has the property
abbrev pub EachName : (ℕ → Type 0) → FormulaTree → Type 0
EachName P (constant b) = Unit {0}
EachName P (named n) = P n
EachName P (negated f) = EachName P f
EachName P (joined c f g) = EachName P f × EachName P g

-- the number of connectives
abbrev pub connectives : FormulaTree → ℕ
connectives (constant b) = 0
connectives (named n) = 0
connectives (negated f) = connectives f
connectives (joined c f g) = suc (connectives f + connectives g)

-- the number of nodes
abbrev pub nodes : FormulaTree → ℕ
nodes (constant b) = 1
nodes (named n) = 1
nodes (negated f) = suc (nodes f)
nodes (joined c f g) = suc (nodes f + nodes g)
