use Rattle.std.proofs.Common.{map, ap, sym, ◌∙◌, cond, true}
use Rattle.hys_ast.specs.Seen.{tree_of}
use Rattle.hys_meaning.specs.Typed.{is_comparison}
use Rattle.hys_type.specs.Sorts.{Sort, is_bool}
use Rattle.hys_type.specs.Checks.{demanded, has_top}
use Rattle.hys_type.specs.Operands.{seen}
use Rattle.hys_type.proofs.Operators.{sort_is}
use Rattle.hys_type.proofs.Rights.{nodes_first, top_last}
use Rattle.hys_type.proofs.right.check_demand.Goals as goal

pub returns-in_err-found : goal.returns-in_err-found
returns-in_err-found c = nodes_first (map seen c.args.scope.now) (demanded (map seen c.args.scope.now)) (tree_of c.args.whole.now) c.from_residual.result _ c.from_residual.ensures c.in_err-found.ensures.fault

pub returns : goal.returns
returns c =
    let ns = map seen c.args.scope.now in
    let e = tree_of c.args.whole.now in
    top_last ns (demanded ns) e c.place_of.result c.may_be_demanded.result c.check_top.result c.in_ok-found.ensures.fault c.place_of.ensures
    (c.may_be_demanded.ensures ∙ ap (λ (s : Sort). cond (has_top is_comparison e) true (is_bool s)) (sym (sort_is ns e c.in_ok-found.found c.in_ok-found.ensures.node))) c.check_top.ensures
