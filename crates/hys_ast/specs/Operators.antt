-- The operators of expressions: which tokens they are, and how tightly they bind.
use Rattle.std.specs.Prelude.{Bool, true, false, ℕ, Option, Some, None, if◌then◌else◌, ◌==◌}
use Rattle.hys_lex.specs.declared.token.TokenKind.{TokenKind}
use Rattle.hys_lex.specs.declared.token.TokenKind.TheVariants as token
use Rattle.hys_lex.specs.declared.sign.TheConstants as sign
use Rattle.hys_ast.specs.declared.tree.UnaryOp.{UnaryOp}
use Rattle.hys_ast.specs.declared.tree.UnaryOp.TheVariants as unary
use Rattle.hys_ast.specs.declared.tree.BinaryOp.{BinaryOp}
use Rattle.hys_ast.specs.declared.tree.BinaryOp.TheVariants as binary
use Rattle.hys_ast.specs.declared.level.Level.{Level}
use Rattle.hys_ast.specs.declared.level.Level.TheVariants as level

abbrev pub binary_sign : ℕ → Option BinaryOp
binary_sign s =
    if s == sign.AT_MOST then Some binary.Most else
    (if s == sign.AT_LEAST then Some binary.Least else
    (if s == sign.EQUAL_TO then Some binary.Equal else
    (if s == sign.PLUS then Some binary.Add else
    (if s == sign.MINUS then Some binary.Sub else
    (if s == sign.TIMES then Some binary.Mul else
    (if s == sign.DIVIDE then Some binary.Div else
    (if s == sign.AND then Some binary.And else
    (if s == sign.AND_AND then Some binary.And else
    (if s == sign.OR then Some binary.Or else
    (if s == sign.OR_OR then Some binary.Or else
    (if s == sign.THEN then Some binary.Then else
    (if s == sign.FROM then Some binary.From else
    (if s == sign.IFF then Some binary.Iff else None)))))))))))))

-- the operator that the token is between two operands
abbrev pub binary_of : TokenKind → Option BinaryOp
binary_of token.Name = None
binary_of token.Literal = None
binary_of (token.Keyword k) = None
binary_of (token.Sign s) = binary_sign s

abbrev pub level_of : BinaryOp → Level
level_of binary.Add = level.Sum
level_of binary.Sub = level.Sum
level_of binary.Mul = level.Term
level_of binary.Div = level.Term
level_of binary.And = level.And
level_of binary.Or = level.Or
level_of binary.Iff = level.Arrow
level_of binary.Then = level.Arrow
level_of binary.From = level.Arrow
level_of binary.Most = level.Compare
level_of binary.Least = level.Compare
level_of binary.Equal = level.Compare

-- any number of the level's operators may stand side by side
abbrev pub groups : Level → Bool
groups level.Arrow = false
groups level.Or = true
groups level.And = true
groups level.Compare = false
groups level.Sum = true
groups level.Term = true

-- the token says "not" before its operand
abbrev pub is_not : TokenKind → Bool
is_not token.Name = false
is_not token.Literal = false
is_not (token.Keyword k) = false
is_not (token.Sign s) = if s == sign.TILDE then true else (if s == sign.BANG then true else false)

-- the operator that the token is before a number
abbrev pub sign_of : TokenKind → Option UnaryOp
sign_of token.Name = None
sign_of token.Literal = None
sign_of (token.Keyword k) = None
sign_of (token.Sign s) = if s == sign.MINUS then Some unary.Neg else (if s == sign.PLUS then Some unary.Plus else None)
