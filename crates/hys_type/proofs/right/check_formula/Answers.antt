use Rattle.std.proofs.Common.{map, ap, sym, ◌∙◌}
use Rattle.hys_ast.specs.Seen.{tree_of}
use Rattle.hys_ast.specs.Tree.{Tree}
use Rattle.hys_type.specs.Sorts.{is_bool}
use Rattle.hys_type.specs.Nodes.{sort}
use Rattle.hys_type.specs.Operands.{seen}
use Rattle.hys_type.proofs.Operators.{sort_is}
use Rattle.hys_type.proofs.Rights.{nodes_first, top_last}
use Rattle.hys_type.proofs.right.check_formula.Goals as goal

pub returns-in_err-found : goal.returns-in_err-found
returns-in_err-found c =
    let ns = map seen c.args.scope.now in
    nodes_first ns (λ (e : Tree). is_bool (sort ns e)) (tree_of c.args.whole.now) c.from_residual.result _ c.from_residual.ensures c.in_err-found.ensures.fault

pub returns : goal.returns
returns c =
    let ns = map seen c.args.scope.now in
    let e = tree_of c.args.whole.now in
    top_last ns (λ (e : Tree). is_bool (sort ns e)) e c.place_of.result c.is_formula.result c.check_top.result c.in_ok-found.ensures.fault c.place_of.ensures
    (c.is_formula.ensures ∙ ap is_bool (sym (sort_is ns e c.in_ok-found.found c.in_ok-found.ensures.node))) c.check_top.ensures
