use Rattle.std.proofs.Common.{map}
use Rattle.hys_ast.specs.Seen.{tree_of}
use Rattle.hys_meaning.specs.Unfolded.{is_inequality}
use Rattle.hys_type.specs.Checks.{has_top}
use Rattle.hys_type.specs.Operands.{seen}
use Rattle.hys_type.proofs.Rights.{nodes_first, top_last}
use Rattle.hys_type.proofs.right.check_guard.Goals as goal

pub returns-in_err-read : goal.returns-in_err-read
returns-in_err-read c = nodes_first (map seen c.args.scope.now) (has_top is_inequality) (tree_of c.args.whole.now) c.from_residual.result _ c.from_residual.ensures c.in_err-read.ensures.fault

pub returns : goal.returns
returns c = top_last (map seen c.args.scope.now) (has_top is_inequality) (tree_of c.args.whole.now) c.place_of.result c.is_guard.result c.check_top.result c.in_ok-read.ensures.fault c.place_of.ensures c.is_guard.ensures c.check_top.ensures
