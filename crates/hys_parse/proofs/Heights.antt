-- How many readers call one another before one takes a lexeme.
use Rattle.std.proofs.Common.{ℕ}
use Rattle.hys_ast.specs.declared.level.Level.{Level}
use Rattle.hys_ast.specs.declared.level.Level.TheVariants as level

abbrev pub height : Level → ℕ
height level.Term = 3
height level.Sum = 5
height level.Compare = 7
height level.And = 10
height level.Or = 12
height level.Arrow = 14
