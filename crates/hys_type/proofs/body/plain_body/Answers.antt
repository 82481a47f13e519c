use Rattle.std.proofs.Common.{map, length, ◌+◌}
use Rattle.hys_ast.specs.Seen.{tree_of}
use Rattle.hys_type.specs.Operands.{seen}
use Rattle.hys_type.specs.Translation.{left_kind}
use Rattle.hys_type.specs.Built.{setting_of}
use Rattle.hys_type.proofs.Bodies.{guard_built, logic_built, linear_built, next_bool_built, next_real_built}
use Rattle.hys_type.proofs.body.plain_body.Goals as goal

pub returns-in_ok-top_number-in-Ad-clause-body : goal.returns-in_ok-top_number-in-Ad-clause-body
returns-in_ok-top_number-in-Ad-clause-body c =
    rw c.in-Ad.is
    (guard_built (setting_of (map seen c.args.scope.now) c.args.known.now c.args.eps) (c.args.first + length c.args.guards.now.items) (left_kind (map seen c.args.scope.now) c.args.item.now.name) (tree_of c.args.whole.now)
    c.in_ok-top_number-in-Ad.field-0 c.in_ok-top_number-in-Ad.ensures.number)

pub returns-in_ok-formula-in-Logic-clause-body : goal.returns-in_ok-formula-in-Logic-clause-body
returns-in_ok-formula-in-Logic-clause-body c =
    rw c.in-Logic.is
    (logic_built (setting_of (map seen c.args.scope.now) c.args.known.now c.args.eps) (c.args.first + length c.args.guards.now.items) (left_kind (map seen c.args.scope.now) c.args.item.now.name) (tree_of c.args.whole.now)
    c.in_ok-formula-in-Logic.field-0 c.in_ok-formula-in-Logic.ensures.formula)

pub returns-in_ok-affine-in-Linear-clause-body : goal.returns-in_ok-affine-in-Linear-clause-body
returns-in_ok-affine-in-Linear-clause-body c =
    rw c.in-Linear.is
    (linear_built (setting_of (map seen c.args.scope.now) c.args.known.now c.args.eps) (c.args.first + length c.args.guards.now.items) (left_kind (map seen c.args.scope.now) c.args.item.now.name) (tree_of c.args.whole.now)
    c.in_ok-affine-in-Linear.field-0 c.in_ok-affine-in-Linear.ensures)

pub returns-in_ok-formula-in-Automata-clause-body : goal.returns-in_ok-formula-in-Automata-clause-body
returns-in_ok-formula-in-Automata-clause-body c =
    rw c.in-Automata.is
    (next_bool_built (setting_of (map seen c.args.scope.now) c.args.known.now c.args.eps) (c.args.first + length c.args.guards.now.items) (left_kind (map seen c.args.scope.now) c.args.item.now.name) (tree_of c.args.whole.now)
    c.in_ok-formula-in-Automata.field-0 c.in_ok-formula-in-Automata.ensures.formula)

pub returns-in_ok-affine-in-Continuous-clause-body : goal.returns-in_ok-affine-in-Continuous-clause-body
returns-in_ok-affine-in-Continuous-clause-body c =
    rw c.in-Continuous.is
    (next_real_built (setting_of (map seen c.args.scope.now) c.args.known.now c.args.eps) (c.args.first + length c.args.guards.now.items) (left_kind (map seen c.args.scope.now) c.args.item.now.name) (tree_of c.args.whole.now)
    c.in_ok-affine-in-Continuous.field-0 c.in_ok-affine-in-Continuous.ensures)
