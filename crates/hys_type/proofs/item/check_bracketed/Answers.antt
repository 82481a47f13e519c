use Rattle.std.proofs.Common.{map, ◌++◌}
use Rattle.hys_ast.specs.Seen.{tree_of}
use Rattle.hys_meaning.specs.Unfolded.{is_inequality}
use Rattle.hys_type.specs.Checks.{expression, has_top, tolerance_checks}
use Rattle.hys_type.specs.Operands.{seen}
use Rattle.hys_type.proofs.Firsts.{handed}
use Rattle.hys_type.proofs.Rights.{of_err}
use Rattle.hys_type.proofs.Operators.{fault_first, answers_behind}
use Rattle.hys_type.proofs.item.check_bracketed.Goals as goal

pub returns-in_err-check_guard : goal.returns-in_err-check_guard
returns-in_err-check_guard c =
    let a = expression (map seen c.args.scope.now) (has_top is_inequality) (tree_of c.args.whole.now) in
    let b = tolerance_checks c.args.known.now c.args.place (tree_of c.args.tolerance.now) in
    handed c.from_residual.result _ (a ++ b) c.from_residual.ensures (fault_first a b _ c.in_err-check_guard.ensures)

pub returns : goal.returns
returns c =
    let a = expression (map seen c.args.scope.now) (has_top is_inequality) (tree_of c.args.whole.now) in
    let b = tolerance_checks c.args.known.now c.args.place (tree_of c.args.tolerance.now) in
    answers_behind c.check_bracket.result a b c.in_ok-check_guard.ensures (of_err c.check_bracket.result b c.check_bracket.ensures)
