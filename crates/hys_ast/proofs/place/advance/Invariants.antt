use Rattle.hys_ast.proofs.PlaceSteps.{Reached}
use Rattle.hys_ast.proofs.place.advance.Given as goal

abbrev pub invariant-loop-at : goal.invariant-loop-at
invariant-loop-at l = Reached l.text l.at l.line l.col
