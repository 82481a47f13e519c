use Rattle.std.proofs.lemmas.Bool.{ltb-true}
use Rattle.hys_ast.specs.Printed.{strength}
use Rattle.hys_ast.proofs.Needed.{needed}
use Rattle.hys_ast.proofs.laws.parentheses.Goals as goal

pub returns : goal.returns
returns c = λ least e within loose. needed least e within (ltb-true (strength e) least loose)
