use Rattle.std.proofs.Common.{refl}
use Rattle.std.proofs.lemmas.Result.{IfOk-weaker}
use Rattle.hys_ast.specs.Printed.{closing}
use Rattle.hys_ast.proofs.printer.end.Goals as goal

pub returns-in-Some : goal.returns-in-Some
returns-in-Some c = rw c.in-Some.is (IfOk-weaker c.put.result _ _ (λ u e rest.
    e (closing) rest refl) c.put.ensures)
