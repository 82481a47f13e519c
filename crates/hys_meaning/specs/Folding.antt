-- The numbers that the expressions of a source are folded to: what each literal says, and at each
-- node the factors and the constant of its form, in the order in which they are computed.
use Rattle.std.specs.Prelude.{ℕ, List, [], ◌∷◌, ◌++◌, Option, Some, None, Bool, true, false, map, cond, pos, flat_map, IsTrue}
use Rattle.std.specs.Ordering.{int_eq}
use Rattle.std.specs.List.{AllByRecursion, list_all}
use Rattle.hys_number.specs.Number.{Number}
use Rattle.hys_number.specs.Ops.{fits}
use Rattle.hys_lin.specs.declared.lost.Lost.{Lost}
use Rattle.hys_lin.specs.declared.lost.Op.TheVariants.{Div}
use Rattle.hys_lin.specs.Operations.{outcome, plus, minus, times}
use Rattle.hys_ast.specs.declared.place.Place.{Place}
use Rattle.hys_ast.specs.declared.tree.BinaryOp.{BinaryOp}
use Rattle.hys_ast.specs.declared.tree.BinaryOp.TheVariants as binary
use Rattle.hys_ast.specs.Tree.{Tree, Decl, Source}
use Rattle.hys_ast.specs.Tree as tree
use Rattle.hys_ast.specs.Nodes.{if_any, items_expressions}
use Rattle.hys_meaning.specs.Values.{literal}
use Rattle.hys_meaning.specs.Names.{Name, names, is_parameter}
use Rattle.hys_meaning.specs.Typed.{has_box}
use Rattle.hys_meaning.specs.Forms.{Form, form}

-- a number as it is written, or an operation that gives it
pub data Computation : Type 0 where
  Written : Number → Computation
  Operation : Lost → Computation

abbrev pub result : Computation → Number
result (Written a) = a
result (Operation o) = outcome o

-- a number that is computed at a place
pub record Computed : Type 0 where
  pub place : Place
  pub what : Computation

abbrev pub all_at : Place → List Lost → List Computed
all_at p os = map (λ o. record { place = p; what = Operation o }) os

-- the first of the numbers that doesn't fit, if there is one
abbrev pub first_unfit : List Computed → Option Computed
first_unfit [] = None
first_unfit (c ∷ cs) = cond (fits (result c.what)) (first_unfit cs) (Some c)

-- ---- at a node
unfoldable pub is_zero : Number → Bool
is_zero a = int_eq a.num (pos 0)

-- no declared name has a factor
abbrev pub is_constant : List Name → Form → Bool
is_constant ns f = list_all (λ n. is_zero (f.factor n.text)) ns

abbrev pub over : Number → Number → Lost
over a b = record { op = Div; left = a; right = b }

-- an operation between two numbers of each name, in the order of declaration, then between the constants
abbrev pub each : (Number → Number → Lost) → List Name → (List ℕ → Number) → (List ℕ → Number) → Number → Number → List Lost
each op ns f g a b = map (λ n. op (f n.text) (g n.text)) ns ++ op a b ∷ []

-- sums and differences are taken factor by factor
abbrev pub matched : (Number → Number → Lost) → List Name → Form → Form → List Lost
matched op ns f g = each op ns f.factor g.factor f.constant g.constant

-- in a product the side that is constant stands where it is written
abbrev pub multiplied : Bool → List Name → Form → Form → List Lost
multiplied true ns f g = each times ns (λ n. f.constant) g.factor f.constant g.constant
multiplied false ns f g = each times ns f.factor (λ n. g.constant) f.constant g.constant

-- the operations at an operator: those of a comparison give its guard number, and a connective has none
abbrev pub folding : List Name → BinaryOp → Form → Form → List Lost
folding ns binary.Add f g = matched plus ns f g
folding ns binary.Sub f g = matched minus ns f g
folding ns binary.Mul f g = multiplied (is_constant ns f) ns f g
folding ns binary.Div f g = each over ns f.factor (λ n. g.constant) f.constant g.constant
folding ns binary.Most f g = matched minus ns f g
folding ns binary.Least f g = matched minus ns g f
folding ns binary.Equal f g = matched minus ns f g
folding ns binary.And f g = []
folding ns binary.Or f g = []
folding ns binary.Iff f g = []
folding ns binary.Then f g = []
folding ns binary.From f g = []

-- The numbers of an expression, operands first. A sign needs none, since what it gives fits where
-- its operand does; no more does a name or a cast, whose factor is 1 or whose value was computed
-- where it was declared.
abbrev pub numbers_of : List Name → Tree → List Computed
numbers_of ns (tree.Number text p) = record { place = p; what = Written (literal text) } ∷ []
numbers_of ns (tree.Name n p) = []
numbers_of ns (tree.Truth b p) = []
numbers_of ns (tree.Cast n p) = []
numbers_of ns (tree.Unary op a p) = numbers_of ns a
numbers_of ns (tree.Binary op a b p) = numbers_of ns a ++ (numbers_of ns b ++ all_at p (folding ns op (form ns a) (form ns b)))

-- the factors at the declared names fit, and so does the constant
abbrev pub FormFits : List Name → Form → Type 0
FormFits ns f = AllByRecursion (λ n. IsTrue (fits (f.factor n.text))) ns × IsTrue (fits f.constant)

-- ---- in a source
abbrev pub value_of : Decl → List Tree
value_of d = cond (is_parameter d.section) (if_any d.value) []

abbrev pub bounds_of : Decl → List Tree
bounds_of d = cond (has_box d) (if_any d.low ++ if_any d.high) []

-- the expressions in the order in which they are judged: the values of parameters, the bounds of
-- real states and inputs, and the items'
abbrev pub judged : Source → List Tree
judged s = flat_map value_of s.decls ++ (flat_map bounds_of s.decls ++ items_expressions s.items)

-- the numbers of all expressions of a source
abbrev pub folded : Source → List Computed
folded s = flat_map (numbers_of (names s)) (judged s)
