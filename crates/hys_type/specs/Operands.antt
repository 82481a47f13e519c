-- What the nodes of an item's expressions are folded to: dense forms, and the checks between them.
use Rattle.std.specs.Prelude.{◌≡◌, ℕ, List, [], ◌∷◌, ◌++◌, Option, Bool, true, false, not, cond, map, length}
use Rattle.std.specs.List.{list_all}
use Rattle.hys_number.specs.Ops.{neg, whole}
use Rattle.hys_lin.specs.declared.lost.Lost.{Lost}
use Rattle.hys_lin.specs.declared.lost.Op.TheVariants as operation
use Rattle.hys_ast.specs.declared.place.Place.{Place}
use Rattle.hys_ast.specs.declared.tree.UnaryOp.{UnaryOp}
use Rattle.hys_ast.specs.declared.tree.UnaryOp.TheVariants as unary
use Rattle.hys_ast.specs.declared.tree.BinaryOp.{BinaryOp}
use Rattle.hys_ast.specs.declared.tree.BinaryOp.TheVariants as binary
use Rattle.hys_ast.specs.Tree.{Tree}
use Rattle.hys_meaning.specs.Names.{Name, look, is_parameter}
use Rattle.hys_meaning.specs.Forms.{Form, form, parameter_or}
use Rattle.hys_meaning.specs.Folding.{is_zero}
use Rattle.hys_type.specs.Sorts.{Sort, Real, Bool', Neither}
use Rattle.hys_type.specs.Faults.{Check, check, in_range}
use Rattle.hys_type.specs.Nodes.{sort, takes_binary}
use Rattle.hys_type.specs.Dense.{IsDense, folded_by, folded_form, spread}
use Rattle.hys_type.specs.declared.fault.TypeFault.TheVariants as fault
use Rattle.hys_type.specs.declared.scope.Declared.{Declared}
use Rattle.hys_type.specs.declared.dense.Dense.{Dense}
use Rattle.hys_type.specs.declared.node.Node.{Node}
use Rattle.hys_type.specs.declared.node.Node.TheVariants as node

-- a declared name without its box, which no expression asks for
abbrev pub seen : Declared → Name
seen d = record { text = d.text; section = d.section; kind = d.kind; low = whole 0; high = whole 0; value = d.value }

-- the name with a text
abbrev pub lookup : List Declared → List ℕ → Option Name
lookup ds n = look (map seen ds) n

-- the form of a declared name: that of its value where it is a parameter
abbrev pub own_form : List ℕ → Declared → Form
own_form n d = parameter_or n d.value (is_parameter d.section)

-- ---- nodes
abbrev pub node_sort : Node → Sort
node_sort (node.Real d) = Real
node_sort node.Bool = Bool'
node_sort node.Neither = Neither

-- what the expression is, and its form where it is real
abbrev pub IsNode : List Name → Tree → Node → Type 0
IsNode ns e (node.Real d) = (sort ns e ≡ Real) × IsDense ns (form ns e) d
IsNode ns e node.Bool = sort ns e ≡ Bool'
IsNode ns e node.Neither = sort ns e ≡ Neither

-- two forms have a factor for each of the same names
abbrev pub AreAlike : Node → Node → Type 0
AreAlike (node.Real d) (node.Real e) = length d.factors ≡ length e.factors
AreAlike (node.Real d) node.Bool = Unit {0}
AreAlike (node.Real d) node.Neither = Unit {0}
AreAlike node.Bool b = Unit {0}
AreAlike node.Neither b = Unit {0}

-- ---- signs
abbrev pub negated : Dense → Dense
negated d = record { factors = map neg d.factors; constant = neg d.constant }

abbrev pub negated_node : Node → Node
negated_node (node.Real d) = node.Real (negated d)
negated_node node.Bool = node.Bool
negated_node node.Neither = node.Neither

abbrev pub signed_node : UnaryOp → Node → Node
signed_node unary.Not n = n
signed_node unary.Neg n = negated_node n
signed_node unary.Plus n = n

-- ---- two forms
-- no name has a factor
abbrev pub has_none : Dense → Bool
has_none d = list_all is_zero d.factors

abbrev pub linear : BinaryOp → Dense → Dense → Place → List Check
linear binary.Mul d e p = check (cond (has_none d) true (has_none e)) (fault.NotLinear p) ∷ []
linear binary.Div d e p =
    check (has_none e) (fault.NotLinear p) ∷ check (not (is_zero e.constant)) (fault.ZeroDivisor p) ∷ []
linear binary.Add d e p = []
linear binary.Sub d e p = []
linear binary.And d e p = []
linear binary.Or d e p = []
linear binary.Iff d e p = []
linear binary.Then d e p = []
linear binary.From d e p = []
linear binary.Most d e p = []
linear binary.Least d e p = []
linear binary.Equal d e p = []

-- in a product the side that is constant stands where it is written
abbrev pub multiplied : Bool → Dense → Dense → List Lost
multiplied true d e = folded_by operation.Mul (spread d) e
multiplied false d e = folded_by operation.Mul d (spread e)

abbrev pub product : Bool → Dense → Dense → Dense
product true d e = folded_form operation.Mul (spread d) e
product false d e = folded_form operation.Mul d (spread e)

-- a product, of which one side is constant
abbrev pub product_checks : Dense → Dense → Place → List Check
product_checks d e p = linear binary.Mul d e p ++ in_range p (multiplied (has_none d) d e)

-- a quotient, whose divisor is constant
abbrev pub quotient_checks : Dense → Dense → Place → List Check
quotient_checks d e p = linear binary.Div d e p ++ in_range p (folded_by operation.Div d (spread e))

abbrev pub operations : BinaryOp → Dense → Dense → List Lost
operations binary.Add d e = folded_by operation.Add d e
operations binary.Sub d e = folded_by operation.Sub d e
operations binary.Mul d e = multiplied (has_none d) d e
operations binary.Div d e = folded_by operation.Div d (spread e)
operations binary.And d e = []
operations binary.Or d e = []
operations binary.Iff d e = []
operations binary.Then d e = []
operations binary.From d e = []
operations binary.Most d e = folded_by operation.Sub d e
operations binary.Least d e = folded_by operation.Sub e d
operations binary.Equal d e = folded_by operation.Sub d e

abbrev pub real_checks : BinaryOp → Dense → Dense → Place → List Check
real_checks op d e p =
    check (takes_binary op Real Real) (fault.Kind p) ∷ (linear op d e p ++ in_range p (operations op d e))

abbrev pub combined_node : BinaryOp → Dense → Dense → Node
combined_node binary.Add d e = node.Real (folded_form operation.Add d e)
combined_node binary.Sub d e = node.Real (folded_form operation.Sub d e)
combined_node binary.Mul d e = node.Real (product (has_none d) d e)
combined_node binary.Div d e = node.Real (folded_form operation.Div d (spread e))
combined_node binary.And d e = node.Bool
combined_node binary.Or d e = node.Bool
combined_node binary.Iff d e = node.Bool
combined_node binary.Then d e = node.Bool
combined_node binary.From d e = node.Bool
combined_node binary.Most d e = node.Bool
combined_node binary.Least d e = node.Bool
combined_node binary.Equal d e = node.Neither

-- ---- two nodes
abbrev pub no_operand : Place → List Check
no_operand p = check false (fault.Kind p) ∷ []

abbrev pub joined_checks : BinaryOp → Node → Node → Place → List Check
joined_checks op (node.Real d) (node.Real e) p = real_checks op d e p
joined_checks op (node.Real d) node.Bool p = no_operand p
joined_checks op (node.Real d) node.Neither p = no_operand p
joined_checks op node.Bool (node.Real e) p = no_operand p
joined_checks op node.Bool node.Bool p = check (takes_binary op Bool' Bool') (fault.Kind p) ∷ []
joined_checks op node.Bool node.Neither p = no_operand p
joined_checks op node.Neither b p = no_operand p

abbrev pub joined_node : BinaryOp → Node → Node → Node
joined_node op (node.Real d) (node.Real e) = combined_node op d e
joined_node op (node.Real d) node.Bool = node.Bool
joined_node op (node.Real d) node.Neither = node.Bool
joined_node op node.Bool b = node.Bool
joined_node op node.Neither b = node.Bool
