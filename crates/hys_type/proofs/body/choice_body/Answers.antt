use Rattle.std.proofs.Common.{map, length, ◌+◌}
use Rattle.hys_ast.specs.Seen.{tree_of, maybe_tree_of}
use Rattle.hys_type.specs.Operands.{seen}
use Rattle.hys_type.specs.Translation.{left_kind}
use Rattle.hys_type.specs.Built.{setting_of}
use Rattle.hys_type.proofs.Bodies.{choice_built}
use Rattle.hys_type.proofs.body.choice_body.Goals as goal

pub returns-in_ok-other-in-Da-clause-body : goal.returns-in_ok-other-in-Da-clause-body
returns-in_ok-other-in-Da-clause-body c =
    rw c.in-Da.is
    (choice_built (setting_of (map seen c.args.scope.now) c.args.known.now c.args.eps) (c.args.first + length c.args.guards.now.items) (left_kind (map seen c.args.scope.now) c.args.item.now.name)
    (tree_of c.args.when.now) (tree_of c.args.hit.now) (maybe_tree_of c.args.other.now) _ _ _ c.in_ok-when-in-Da.ensures.formula c.in_ok-hit-in-Da.ensures c.in_ok-other-in-Da.ensures)
