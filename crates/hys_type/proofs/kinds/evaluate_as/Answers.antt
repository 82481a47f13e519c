use Rattle.hys_ast.specs.Seen.{tree_of}
use Rattle.hys_type.proofs.Numbers.{of_kind}
use Rattle.hys_type.proofs.kinds.evaluate_as.Goals as goal

pub returns-clause-fault : goal.returns-clause-fault
returns-clause-fault c = of_kind c.args.kind c.args.known.now (tree_of c.args.whole.now) c.in_ok-constant.constant c.place_of.result _ c.place_of.ensures c.in_ok-constant.ensures.fault c.in_ok-constant.ensures.worth c.number_of.ensures.fault
