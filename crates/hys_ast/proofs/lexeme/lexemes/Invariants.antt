use Rattle.hys_ast.proofs.LexemeSteps.{Upto}
use Rattle.hys_ast.proofs.lexeme.lexemes.Given as goal

abbrev pub invariant-loop-token : goal.invariant-loop-token
invariant-loop-token l = Upto l.text l.tokens l.token-index l.found.items l.place
