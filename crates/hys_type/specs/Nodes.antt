-- The checks of an expression that stands in an item.
use Rattle.std.specs.Prelude.{List, [], ◌∷◌, ◌++◌, Option, Some, None, Bool, true, false, ◌&&◌, not, cond}
use Rattle.hys_number.specs.Ops.{fits}
use Rattle.hys_ast.specs.declared.place.Place.{Place}
use Rattle.hys_ast.specs.declared.tree.BinaryOp.{BinaryOp}
use Rattle.hys_ast.specs.declared.tree.BinaryOp.TheVariants as binary
use Rattle.hys_ast.specs.Tree.{Tree}
use Rattle.hys_ast.specs.Tree as tree
use Rattle.hys_meaning.specs.Values.{literal}
use Rattle.hys_meaning.specs.Names.{Name, look, is_output}
use Rattle.hys_meaning.specs.Forms.{Form, form}
use Rattle.hys_meaning.specs.Folding.{folding, is_constant, is_zero}
use Rattle.hys_type.specs.Sorts.{Sort, Real, Bool', Neither, sort_of_kind, sort_of_unary, sort_of_binary, is_real, is_bool, takes_unary}
use Rattle.hys_type.specs.Constants.{is_bool_kind}
use Rattle.hys_type.specs.Faults.{Check, check, in_range}
use Rattle.hys_type.specs.declared.fault.TypeFault.TheVariants as fault

-- ---- names
abbrev pub is_declared : Option Name → Bool
is_declared (Some n) = true
is_declared None = false

-- an OUTPUT name stands in no expression
abbrev pub may_stand : Option Name → Bool
may_stand (Some n) = not (is_output n.section)
may_stand None = false

abbrev pub may_be_cast : Option Name → Bool
may_be_cast (Some n) = not (is_output n.section) && is_bool_kind n.kind
may_be_cast None = false

abbrev pub name_checks : (Option Name → Bool) → Option Name → Place → List Check
name_checks may n p = check (is_declared n) (fault.Unknown p) ∷ check (may n) (fault.Kind p) ∷ []

-- ---- kinds
abbrev pub sort_of_name : Option Name → Sort
sort_of_name (Some n) = sort_of_kind n.kind
sort_of_name None = Neither

abbrev pub sort : List Name → Tree → Sort
sort ns (tree.Number text p) = Real
sort ns (tree.Name n p) = sort_of_name (look ns n)
sort ns (tree.Truth b p) = Bool'
sort ns (tree.Cast n p) = Real
sort ns (tree.Unary op a p) = sort_of_unary op
sort ns (tree.Binary op a b p) = sort_of_binary op

-- a comparison takes real operands
abbrev pub takes_binary : BinaryOp → Sort → Sort → Bool
takes_binary binary.Add a b = is_real a && is_real b
takes_binary binary.Sub a b = is_real a && is_real b
takes_binary binary.Mul a b = is_real a && is_real b
takes_binary binary.Div a b = is_real a && is_real b
takes_binary binary.And a b = is_bool a && is_bool b
takes_binary binary.Or a b = is_bool a && is_bool b
takes_binary binary.Iff a b = is_bool a && is_bool b
takes_binary binary.Then a b = is_bool a && is_bool b
takes_binary binary.From a b = is_bool a && is_bool b
takes_binary binary.Most a b = is_real a && is_real b
takes_binary binary.Least a b = is_real a && is_real b
takes_binary binary.Equal a b = is_real a && is_real b

-- ---- forms
-- in a product one side is constant, a divisor is constant, and then it isn't 0
abbrev pub linear_checks : List Name → BinaryOp → Form → Form → Place → List Check
linear_checks ns binary.Mul f g p = check (cond (is_constant ns f) true (is_constant ns g)) (fault.NotLinear p) ∷ []
linear_checks ns binary.Div f g p =
    check (is_constant ns g) (fault.NotLinear p) ∷ check (not (is_zero g.constant)) (fault.ZeroDivisor p) ∷ []
linear_checks ns binary.Add f g p = []
linear_checks ns binary.Sub f g p = []
linear_checks ns binary.And f g p = []
linear_checks ns binary.Or f g p = []
linear_checks ns binary.Iff f g p = []
linear_checks ns binary.Then f g p = []
linear_checks ns binary.From f g p = []
linear_checks ns binary.Most f g p = []
linear_checks ns binary.Least f g p = []
linear_checks ns binary.Equal f g p = []

-- at an operator between operands of these sorts with these forms: the numbers that the node is folded to fit, that of
-- a comparison being its guard number
abbrev pub operator_checks : List Name → BinaryOp → Sort → Sort → Form → Form → Place → List Check
operator_checks ns op s t f g p =
    check (takes_binary op s t) (fault.Kind p) ∷ (linear_checks ns op f g p ++ in_range p (folding ns op f g))

-- the checks of the nodes, operands first, from left to right
abbrev pub node_checks : List Name → Tree → List Check
node_checks ns (tree.Number text p) = check (fits (literal text)) (fault.Literal p) ∷ []
node_checks ns (tree.Name n p) = name_checks may_stand (look ns n) p
node_checks ns (tree.Truth b p) = []
node_checks ns (tree.Cast n p) = name_checks may_be_cast (look ns n) p
node_checks ns (tree.Unary op a p) = node_checks ns a ++ check (takes_unary op (sort ns a)) (fault.Kind p) ∷ []
node_checks ns (tree.Binary op a b p) = node_checks ns a
    ++ (node_checks ns b ++ operator_checks ns op (sort ns a) (sort ns b) (form ns a) (form ns b) p)
