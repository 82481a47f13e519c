use Rattle.std.proofs.Common.{map, ◌++◌}
use Rattle.hys_ast.specs.Seen.{item_of}
use Rattle.hys_meaning.specs.Bodies.{body}
use Rattle.hys_type.specs.Declarations.{if_some}
use Rattle.hys_type.specs.Checks.{scoped, left_checks, left_name, right_checks}
use Rattle.hys_type.specs.Operands.{seen}
use Rattle.hys_type.proofs.Firsts.{handed}
use Rattle.hys_type.proofs.Operators.{fault_first, answers_behind}
use Rattle.hys_type.proofs.item.check_item.Goals as goal

pub returns-in_err-check_left_name : goal.returns-in_err-check_left_name
returns-in_err-check_left_name c =
    let ns = map seen c.args.scope.now in
    let i = item_of c.args.item.now in
    let a = if_some (left_checks ns (map item_of c.args.before.now) i) i.name in
    let b = right_checks (scoped ns c.args.known.now) (left_name ns i.name) i.place (body i) in
    handed c.from_residual.result _ (a ++ b) c.from_residual.ensures (fault_first a b _ (λ n. c.in_err-check_left_name.ensures))

pub returns : goal.returns
returns c =
    let ns = map seen c.args.scope.now in
    let i = item_of c.args.item.now in
    let a = if_some (left_checks ns (map item_of c.args.before.now) i) i.name in
    let b = right_checks (scoped ns c.args.known.now) (left_name ns i.name) i.place (body i) in
    answers_behind c.check_right.result a b c.in_ok-check_left_name.ensures c.check_right.ensures
