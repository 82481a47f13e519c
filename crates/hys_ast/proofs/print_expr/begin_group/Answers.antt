use Rattle.std.proofs.Common.{codes, refl}
use Rattle.std.proofs.lemmas.Result.{IfOk-weaker}
use Rattle.hys_lex.specs.declared.sign.TheConstants as sign
use Rattle.hys_ast.specs.Printed.{mark}
use Rattle.hys_ast.proofs.print_expr.begin_group.Goals as goal

pub returns-then-needed : goal.returns-then-needed
returns-then-needed c = rw c.if-needed.true (IfOk-weaker c.put.result _ _ (λ u e rest. e (mark sign.OPEN_PARENTHESIS (codes "(")) rest refl) c.put.ensures)
