-- Constant expressions: what they may name, what they are, and their checks.
use Rattle.std.specs.Prelude.{ℕ, List, [], ◌∷◌, ◌++◌, Option, Some, None, Bool, true, false, ◌&&◌, not, ◌≡◌, Result, Ok, Err}
use Rattle.std.specs.Str.{bytes_eq}
use Rattle.std.specs.List.{find}
use Rattle.hys_number.specs.Number.{Number}
use Rattle.hys_number.specs.Ops.{whole, fits}
use Rattle.hys_frac.specs.Read.{reading, judged}
use Rattle.hys_lin.specs.declared.lost.Lost.{Lost}
use Rattle.hys_lin.specs.Operations.{plus, minus, times, over}
use Rattle.hys_lin.specs.Bits.{bit, is_one}
use Rattle.hys_ast.specs.declared.place.Place.{Place}
use Rattle.hys_ast.specs.declared.tree.UnaryOp.{UnaryOp}
use Rattle.hys_ast.specs.declared.tree.BinaryOp.{BinaryOp}
use Rattle.hys_ast.specs.declared.tree.BinaryOp.TheVariants as binary
use Rattle.hys_ast.specs.declared.source.Kind.{Kind}
use Rattle.hys_ast.specs.declared.source.Kind.TheVariants as kind
use Rattle.hys_ast.specs.Tree.{Tree}
use Rattle.hys_ast.specs.Tree as tree
use Rattle.hys_meaning.specs.Values.{Assignment, literal, value, truth, signed, flipped, computed, joined}
use Rattle.hys_meaning.specs.Folding.{is_zero}
use Rattle.hys_type.specs.Sorts.{Sort, Real, Bool', Neither, sort_of_kind, sort_of_unary, sort_of_binary, is_real, is_bool, takes_unary}
use Rattle.hys_type.specs.Faults.{Check, check, in_range}
use Rattle.hys_type.specs.declared.fault.TypeFault.{TypeFault}
use Rattle.hys_type.specs.declared.fault.TypeFault.TheVariants as fault
use Rattle.hys_type.specs.declared.constant.Known.{Known}
use Rattle.hys_type.specs.declared.constant.Constant.{Constant}
use Rattle.hys_type.specs.declared.constant.Constant.TheVariants as constant

-- ---- names
-- the known name with a text
abbrev pub find_known : List Known → List ℕ → Option Known
find_known ks n = find (λ k. bytes_eq k.text n) ks

abbrev pub number_or_zero : Option Number → Number
number_or_zero (Some a) = a
number_or_zero None = whole 0

abbrev pub known_value : Option Known → Number
known_value (Some k) = number_or_zero k.value
known_value None = whole 0

-- the values of the known parameters
abbrev pub known_values : List Known → Assignment
known_values ks n = known_value (find_known ks n)

abbrev pub is_found : Option Known → Bool
is_found (Some k) = true
is_found None = false

abbrev pub has_number : Option Number → Bool
has_number (Some a) = true
has_number None = false

abbrev pub is_bool_kind : Kind → Bool
is_bool_kind kind.Real = false
is_bool_kind kind.Bool = true

-- a parameter
abbrev pub may_stand : Option Known → Bool
may_stand (Some k) = has_number k.value
may_stand None = false

-- a Boolean parameter
abbrev pub may_be_cast : Option Known → Bool
may_be_cast (Some k) = has_number k.value && is_bool_kind k.kind
may_be_cast None = false

-- ---- kinds
abbrev pub sort_of_known : Option Known → Sort
sort_of_known (Some k) = sort_of_kind k.kind
sort_of_known None = Neither

abbrev pub known_sort : List Known → Tree → Sort
known_sort ks (tree.Number text p) = Real
known_sort ks (tree.Name n p) = sort_of_known (find_known ks n)
known_sort ks (tree.Truth b p) = Bool'
known_sort ks (tree.Cast n p) = Real
known_sort ks (tree.Unary op a p) = sort_of_unary op
known_sort ks (tree.Binary op a b p) = sort_of_binary op

-- what an operator takes in a constant expression, where no comparison stands
abbrev pub takes_constants : BinaryOp → Sort → Sort → Bool
takes_constants binary.Add a b = is_real a && is_real b
takes_constants binary.Sub a b = is_real a && is_real b
takes_constants binary.Mul a b = is_real a && is_real b
takes_constants binary.Div a b = is_real a && is_real b
takes_constants binary.And a b = is_bool a && is_bool b
takes_constants binary.Or a b = is_bool a && is_bool b
takes_constants binary.Iff a b = is_bool a && is_bool b
takes_constants binary.Then a b = is_bool a && is_bool b
takes_constants binary.From a b = is_bool a && is_bool b
takes_constants binary.Most a b = false
takes_constants binary.Least a b = false
takes_constants binary.Equal a b = false

-- ---- checks
abbrev pub name_checks : (Option Known → Bool) → Option Known → Place → List Check
name_checks may k p = check (is_found k) (fault.Unknown p) ∷ check (may k) (fault.Kind p) ∷ []

-- a divisor isn't 0
abbrev pub divisor_checks : BinaryOp → Number → Place → List Check
divisor_checks binary.Div y p = check (not (is_zero y)) (fault.ZeroDivisor p) ∷ []
divisor_checks binary.Add y p = []
divisor_checks binary.Sub y p = []
divisor_checks binary.Mul y p = []
divisor_checks binary.And y p = []
divisor_checks binary.Or y p = []
divisor_checks binary.Iff y p = []
divisor_checks binary.Then y p = []
divisor_checks binary.From y p = []
divisor_checks binary.Most y p = []
divisor_checks binary.Least y p = []
divisor_checks binary.Equal y p = []

-- the operation between two numbers
abbrev pub operation : BinaryOp → Number → Number → List Lost
operation binary.Add x y = plus x y ∷ []
operation binary.Sub x y = minus x y ∷ []
operation binary.Mul x y = times x y ∷ []
operation binary.Div x y = over x y ∷ []
operation binary.And x y = []
operation binary.Or x y = []
operation binary.Iff x y = []
operation binary.Then x y = []
operation binary.From x y = []
operation binary.Most x y = []
operation binary.Least x y = []
operation binary.Equal x y = []

-- at an operator between operands of these sorts with these numbers
abbrev pub operator_checks : BinaryOp → Sort → Sort → Number → Number → Place → List Check
operator_checks op s t x y p =
    check (takes_constants op s t) (fault.Kind p) ∷ (divisor_checks op y p ++ in_range p (operation op x y))

-- the checks of the nodes, operands first, from left to right
abbrev pub constant_checks : List Known → Tree → List Check
constant_checks ks (tree.Number text p) = check (fits (literal text)) (fault.Literal p) ∷ []
constant_checks ks (tree.Name n p) = name_checks may_stand (find_known ks n) p
constant_checks ks (tree.Truth b p) = []
constant_checks ks (tree.Cast n p) = name_checks may_be_cast (find_known ks n) p
constant_checks ks (tree.Unary op a p) =
    constant_checks ks a ++ check (takes_unary op (known_sort ks a)) (fault.Kind p) ∷ []
constant_checks ks (tree.Binary op a b p) =
    constant_checks ks a ++ (constant_checks ks b
    ++ operator_checks op (known_sort ks a) (known_sort ks b) (value (known_values ks) a) (value (known_values ks) b) p)

-- ---- what they are
abbrev pub constant_sort : Constant → Sort
constant_sort (constant.Real a) = Real
constant_sort (constant.Bool b) = Bool'

abbrev pub constant_number : Constant → Number
constant_number (constant.Real a) = a
constant_number (constant.Bool b) = whole 0

-- ---- operators between constants
-- a sign before a constant
abbrev pub sign_checks : UnaryOp → Constant → Place → List Check
sign_checks op c p = check (takes_unary op (constant_sort c)) (fault.Kind p) ∷ []

-- an operator between two constants
abbrev pub pair_checks : BinaryOp → Constant → Constant → Place → List Check
pair_checks op c d p =
    operator_checks op (constant_sort c) (constant_sort d) (constant_number c) (constant_number d) p

-- what a parameter of the kind is by its value
abbrev pub of_kind : Kind → Number → Constant
of_kind kind.Real a = constant.Real a
of_kind kind.Bool a = constant.Bool (is_one a)

abbrev pub signed_constant : UnaryOp → Constant → Constant
signed_constant op (constant.Real a) = constant.Real (signed op a)
signed_constant op (constant.Bool b) = constant.Bool (flipped op b)

abbrev pub joined_constant : BinaryOp → Constant → Constant → Constant
joined_constant op (constant.Real a) (constant.Real b) = constant.Real (computed op a b)
joined_constant op (constant.Bool a) (constant.Bool b) = constant.Bool (joined op a b)
joined_constant op (constant.Real a) (constant.Bool b) = constant.Real a
joined_constant op (constant.Bool a) (constant.Real b) = constant.Bool a

abbrev pub shown_as : Place → Result Number Lost → Result Constant TypeFault
shown_as p (Ok a) = Ok (constant.Real a)
shown_as p (Err l) = Err (fault.Range p l)

-- the constant is what the expression is under the values of the known parameters
abbrev pub IsWorth : List Known → Tree → Constant → Type 0
IsWorth ks e (constant.Real a) = (known_sort ks e ≡ Real) × (a ≡ value (known_values ks) e)
IsWorth ks e (constant.Bool b) = (known_sort ks e ≡ Bool') × (b ≡ truth (known_values ks) e)

-- the number that a constant gives to a name of the kind
abbrev pub IsNumberOf : Kind → Constant → Number → Type 0
IsNumberOf kind.Real (constant.Real a) n = n ≡ a
IsNumberOf kind.Real (constant.Bool b) n = ⊥
IsNumberOf kind.Bool (constant.Real a) n = ⊥
IsNumberOf kind.Bool (constant.Bool b) n = n ≡ bit b

-- ---- literals
-- the text is read as the literal that it is, or refused where its value doesn't fit
abbrev pub IsLiteral : List ℕ → Type 0
IsLiteral text = reading text ≡ judged false (literal text)

-- each literal of the expression is one
abbrev pub HasLiterals : Tree → Type 0
HasLiterals (tree.Number text p) = IsLiteral text
HasLiterals (tree.Name n p) = Unit {0}
HasLiterals (tree.Truth b p) = Unit {0}
HasLiterals (tree.Cast n p) = Unit {0}
HasLiterals (tree.Unary op a p) = HasLiterals a
HasLiterals (tree.Binary op a b p) = HasLiterals a × HasLiterals b
