use Rattle.std.proofs.Common.{map, length, ◌+◌}
use Rattle.hys_ast.specs.Seen.{tree_of}
use Rattle.hys_type.specs.Operands.{seen}
use Rattle.hys_type.specs.Built.{setting_of}
use Rattle.hys_type.proofs.Bodies.{out_bool_built, out_real_built}
use Rattle.hys_type.proofs.body.body_of_kind.Goals as goal

pub returns-in_ok-formula-in-Bool-clause-body : goal.returns-in_ok-formula-in-Bool-clause-body
returns-in_ok-formula-in-Bool-clause-body c =
    rw c.in-Bool.is
    (out_bool_built (setting_of (map seen c.args.scope.now) c.args.known.now c.args.eps) (c.args.first + length c.args.guards.now.items) (tree_of c.args.whole.now) c.in_ok-formula-in-Bool.field-0 c.in_ok-formula-in-Bool.ensures.formula)

pub returns-in_ok-affine-in-Real-clause-body : goal.returns-in_ok-affine-in-Real-clause-body
returns-in_ok-affine-in-Real-clause-body c =
    rw c.in-Real.is
    (out_real_built (setting_of (map seen c.args.scope.now) c.args.known.now c.args.eps) (c.args.first + length c.args.guards.now.items) (tree_of c.args.whole.now) c.in_ok-affine-in-Real.field-0 c.in_ok-affine-in-Real.ensures)
