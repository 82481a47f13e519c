use Rattle.std.proofs.Common.{map}
use Rattle.hys_ast.specs.Seen.{tree_of}
use Rattle.hys_type.specs.Operands.{seen}
use Rattle.hys_type.specs.Translation.{left_kind}
use Rattle.hys_type.proofs.Bodies.{wide_built}
use Rattle.hys_type.proofs.body.wide_body.Goals as goal

pub returns-in_ok-own-in-Ad-clause-body : goal.returns-in_ok-own-in-Ad-clause-body
returns-in_ok-own-in-Ad-clause-body c = λ j.
    rw c.in-Ad.is
    (wide_built (map seen c.args.scope.now) c.args.known.now c.args.eps j (left_kind (map seen c.args.scope.now) c.args.item.now.name) (tree_of c.args.whole.now) (tree_of c.args.tolerance.now) _ _ c.in_ok-number-in-Ad.ensures.number c.in_ok-own-in-Ad.ensures.number)
