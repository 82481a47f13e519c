-- What an expression says under an assignment: a real expression has a number, a formula a truth,
-- node by node as written.
use Rattle.std.specs.Prelude.{ℕ, List, Bool, false, ◌&&◌, ◌||◌, not, cond}
use Rattle.std.specs.Float.Numeral.{scan_numeral}
use Rattle.hys_number.specs.Number.{Number}
use Rattle.hys_number.specs.Ops.{◌+ₙ◌, ◌*ₙ◌, ◌-ₙ◌, ◌/ₙ◌, neg, whole}
use Rattle.hys_frac.specs.Read.{literal_value}
use Rattle.hys_lin.specs.Bits.{bit, is_one}
use Rattle.hys_ast.specs.declared.tree.UnaryOp.{UnaryOp}
use Rattle.hys_ast.specs.declared.tree.UnaryOp.TheVariants as unary
use Rattle.hys_ast.specs.declared.tree.BinaryOp.{BinaryOp}
use Rattle.hys_ast.specs.declared.tree.BinaryOp.TheVariants as binary
use Rattle.hys_ast.specs.declared.source.Kind.{Kind}
use Rattle.hys_ast.specs.declared.source.Kind.TheVariants as kind
use Rattle.hys_ast.specs.Tree as tree

-- a number for each name
abbrev pub Assignment : Type 0
Assignment = List ℕ → Number

-- the exact value of a literal
unfoldable pub literal : List ℕ → Number
literal text = literal_value (scan_numeral text)

-- ---- real expressions
abbrev pub signed : UnaryOp → Number → Number
signed unary.Not a = whole 0
signed unary.Neg a = neg a
signed unary.Plus a = a

-- an operator between two numbers; one that takes none gives 0
abbrev pub computed : BinaryOp → Number → Number → Number
computed binary.Add a b = a +ₙ b
computed binary.Sub a b = a -ₙ b
computed binary.Mul a b = a *ₙ b
computed binary.Div a b = a /ₙ b
computed binary.And a b = whole 0
computed binary.Or a b = whole 0
computed binary.Iff a b = whole 0
computed binary.Then a b = whole 0
computed binary.From a b = whole 0
computed binary.Most a b = whole 0
computed binary.Least a b = whole 0
computed binary.Equal a b = whole 0

-- the number of a real expression; a cast has the number of its name
abbrev pub value : Assignment → tree.Tree → Number
value w (tree.Number text p) = literal text
value w (tree.Name n p) = w n
value w (tree.Truth b p) = whole 0
value w (tree.Cast n p) = w n
value w (tree.Unary op a p) = signed op (value w a)
value w (tree.Binary op a b p) = computed op (value w a) (value w b)

-- ---- formulas
abbrev pub flipped : UnaryOp → Bool → Bool
flipped unary.Not a = not a
flipped unary.Neg a = false
flipped unary.Plus a = false

-- a connective between two truths; `a -> b` is `~a | b`, and `a <- b` is `a | ~b`
abbrev pub joined : BinaryOp → Bool → Bool → Bool
joined binary.And a b = a && b
joined binary.Or a b = a || b
joined binary.Iff a b = cond a b (not b)
joined binary.Then a b = not a || b
joined binary.From a b = a || not b
joined binary.Add a b = false
joined binary.Sub a b = false
joined binary.Mul a b = false
joined binary.Div a b = false
joined binary.Most a b = false
joined binary.Least a b = false
joined binary.Equal a b = false

-- the truth of a formula
abbrev pub truth : Assignment → tree.Tree → Bool
truth w (tree.Number text p) = false
truth w (tree.Name n p) = is_one (w n)
truth w (tree.Truth b p) = b
truth w (tree.Cast n p) = false
truth w (tree.Unary op a p) = flipped op (truth w a)
truth w (tree.Binary op a b p) = joined op (truth w a) (truth w b)

-- what an expression of a kind gives to a name
abbrev pub given : Kind → Assignment → tree.Tree → Number
given kind.Real w e = value w e
given kind.Bool w e = bit (truth w e)

-- ---- guards
-- the left side of a comparison minus its right side for `<=`, the right minus the left for `>=`:
-- the comparison holds where this is at most 0
abbrev pub guard_of : BinaryOp → Number → Number → Number
guard_of binary.Most a b = a -ₙ b
guard_of binary.Least a b = b -ₙ a
guard_of binary.Add a b = whole 0
guard_of binary.Sub a b = whole 0
guard_of binary.Mul a b = whole 0
guard_of binary.Div a b = whole 0
guard_of binary.And a b = whole 0
guard_of binary.Or a b = whole 0
guard_of binary.Iff a b = whole 0
guard_of binary.Then a b = whole 0
guard_of binary.From a b = whole 0
guard_of binary.Equal a b = whole 0

-- the guard number of a comparison
abbrev pub guard_number : Assignment → tree.Tree → Number
guard_number w (tree.Number text p) = whole 0
guard_number w (tree.Name n p) = whole 0
guard_number w (tree.Truth b p) = whole 0
guard_number w (tree.Cast n p) = whole 0
guard_number w (tree.Unary op a p) = whole 0
guard_number w (tree.Binary op a b p) = guard_of op (value w a) (value w b)
