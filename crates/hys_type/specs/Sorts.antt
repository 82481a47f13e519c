-- What a node is: real, Boolean, or a comparison by `==`, which is neither; and what an operator takes.
use Rattle.std.specs.Prelude.{Bool, true, false}
use Rattle.hys_ast.specs.declared.tree.UnaryOp.{UnaryOp}
use Rattle.hys_ast.specs.declared.tree.UnaryOp.TheVariants as unary
use Rattle.hys_ast.specs.declared.tree.BinaryOp.{BinaryOp}
use Rattle.hys_ast.specs.declared.tree.BinaryOp.TheVariants as binary
use Rattle.hys_ast.specs.declared.source.Kind.{Kind}
use Rattle.hys_ast.specs.declared.source.Kind.TheVariants as kind

pub data Sort : Type 0 where
  Real : Sort
  Bool' : Sort
  Neither : Sort

abbrev pub sort_of_kind : Kind → Sort
sort_of_kind kind.Real = Real
sort_of_kind kind.Bool = Bool'

abbrev pub sort_of_unary : UnaryOp → Sort
sort_of_unary unary.Not = Bool'
sort_of_unary unary.Neg = Real
sort_of_unary unary.Plus = Real

abbrev pub sort_of_binary : BinaryOp → Sort
sort_of_binary binary.Add = Real
sort_of_binary binary.Sub = Real
sort_of_binary binary.Mul = Real
sort_of_binary binary.Div = Real
sort_of_binary binary.And = Bool'
sort_of_binary binary.Or = Bool'
sort_of_binary binary.Iff = Bool'
sort_of_binary binary.Then = Bool'
sort_of_binary binary.From = Bool'
sort_of_binary binary.Most = Bool'
sort_of_binary binary.Least = Bool'
sort_of_binary binary.Equal = Neither

abbrev pub is_real : Sort → Bool
is_real Real = true
is_real Bool' = false
is_real Neither = false

abbrev pub is_bool : Sort → Bool
is_bool Real = false
is_bool Bool' = true
is_bool Neither = false

abbrev pub takes_unary : UnaryOp → Sort → Bool
takes_unary unary.Not a = is_bool a
takes_unary unary.Neg a = is_real a
takes_unary unary.Plus a = is_real a
