use Rattle.std.proofs.Common.{map, ap, sym}
use Rattle.hys_ast.specs.Seen.{tree_of}
use Rattle.hys_ast.specs.Tree.{Tree}
use Rattle.hys_type.specs.Sorts.{is_real}
use Rattle.hys_type.specs.Nodes.{sort}
use Rattle.hys_type.specs.Operands.{seen, node_sort}
use Rattle.hys_type.proofs.Operators.{sort_is}
use Rattle.hys_type.proofs.Rights.{nodes_first, top_last}
use Rattle.hys_type.proofs.right.read_real.Goals as goal

pub returns-in_err-found-clause-fault : goal.returns-in_err-found-clause-fault
returns-in_err-found-clause-fault c =
    let ns = map seen c.args.scope.now in
    nodes_first ns (λ (e : Tree). is_real (sort ns e)) (tree_of c.args.whole.now) c.from_residual.result _ c.from_residual.ensures c.in_err-found.ensures.fault

pub returns-clause-fault : goal.returns-clause-fault
returns-clause-fault c =
    let ns = map seen c.args.scope.now in
    let e = tree_of c.args.whole.now in
    top_last ns (λ (e : Tree). is_real (sort ns e)) e c.place_of.result (is_real (node_sort c.in_ok-found.found)) c.form_of.result c.in_ok-found.ensures.fault c.place_of.ensures
    (ap is_real (sym (sort_is ns e c.in_ok-found.found c.in_ok-found.ensures.node))) c.form_of.ensures.fault
