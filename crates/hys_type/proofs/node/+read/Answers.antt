use Rattle.std.proofs.Common.{sym, map, ◌++◌, ◌∷◌, []}
use Rattle.hys_ast.specs.Seen.{tree_of}
use Rattle.hys_ast.specs.Tree as tree
use Rattle.hys_meaning.specs.Forms.{form}
use Rattle.hys_type.specs.Faults.{check}
use Rattle.hys_type.specs.Sorts.{takes_unary}
use Rattle.hys_type.specs.Nodes.{node_checks, sort, operator_checks}
use Rattle.hys_type.specs.Operands.{seen, node_sort, joined_checks}
use Rattle.hys_type.specs.declared.fault.TypeFault.TheVariants as fault
use Rattle.hys_type.proofs.Firsts.{handed}
use Rattle.hys_type.proofs.Operators.{answers_as, fault_first, fault_behind, unary_checks, binary_checks}
use Rattle.hys_type.proofs.node.+read.Goals as goal

pub returns-in_err-operand-in-Unary-clause-fault : goal.returns-in_err-operand-in-Unary-clause-fault
returns-in_err-operand-in-Unary-clause-fault t c =
    let ns = map seen c.args.scope.now in
    let a = tree_of c.deref.result.now in
    rw (c.in-Unary.is, sym c.deref.ensures)
    (handed _ _ (node_checks ns (tree.Unary c.in-Unary.op a c.in-Unary.place)) c.from_residual.ensures
    (fault_first (node_checks ns a) (check (takes_unary c.in-Unary.op (sort ns a)) (fault.Kind c.in-Unary.place) ∷ []) _ c.in_err-operand-in-Unary.ensures.fault))

pub returns-in_err-left-in-Binary-clause-fault : goal.returns-in_err-left-in-Binary-clause-fault
returns-in_err-left-in-Binary-clause-fault t c =
    let ns = map seen c.args.scope.now in
    let a = tree_of c.deref-in-Binary.result.now in
    let b = tree_of c.in-Binary.right.value in
    rw (c.in-Binary.is, sym c.deref-in-Binary.ensures)
    (handed _ _ (node_checks ns (tree.Binary c.in-Binary.op a b c.in-Binary.place)) c.from_residual-in_err-left-in-Binary.ensures
    (fault_first (node_checks ns a) (node_checks ns b ++ operator_checks ns c.in-Binary.op (sort ns a) (sort ns b) (form ns a) (form ns b) c.in-Binary.place) _ c.in_err-left-in-Binary.ensures.fault))

pub returns-in_err-right-in-Binary-clause-fault : goal.returns-in_err-right-in-Binary-clause-fault
returns-in_err-right-in-Binary-clause-fault t c =
    let ns = map seen c.args.scope.now in
    let a = tree_of c.deref-in-Binary.result.now in
    let b = tree_of c.deref-in-Binary-2.result.now in
    let last = operator_checks ns c.in-Binary.op (sort ns a) (sort ns b) (form ns a) (form ns b) c.in-Binary.place in
    rw (c.in-Binary.is, sym c.deref-in-Binary.ensures, sym c.deref-in-Binary-2.ensures)
    (handed _ _ (node_checks ns (tree.Binary c.in-Binary.op a b c.in-Binary.place)) c.from_residual-in_err-right-in-Binary.ensures
    (fault_behind (node_checks ns a) (node_checks ns b ++ last) _ c.in_ok-left-in-Binary.ensures.fault (fault_first (node_checks ns b) last _ c.in_err-right-in-Binary.ensures.fault)))

pub returns-in_ok-operand-in-Unary-clause-fault : goal.returns-in_ok-operand-in-Unary-clause-fault
returns-in_ok-operand-in-Unary-clause-fault t c =
    let ns = map seen c.args.scope.now in
    let a = tree_of c.deref.result.now in
    let o = c.in_ok-operand-in-Unary.operand in
    rw (c.in-Unary.is, sym c.deref.ensures)
    (answers_as c.signed.result (check (takes_unary c.in-Unary.op (node_sort o)) (fault.Kind c.in-Unary.place) ∷ []) (node_checks ns (tree.Unary c.in-Unary.op a c.in-Unary.place))
    (unary_checks ns a c.in-Unary.op c.in-Unary.place o c.in_ok-operand-in-Unary.ensures.fault c.in_ok-operand-in-Unary.ensures.node) c.signed.ensures.fault)

pub returns-in_ok-right-in-Binary-clause-fault : goal.returns-in_ok-right-in-Binary-clause-fault
returns-in_ok-right-in-Binary-clause-fault t c =
    let ns = map seen c.args.scope.now in
    let a = tree_of c.deref-in-Binary.result.now in
    let b = tree_of c.deref-in-Binary-2.result.now in
    let l = c.in_ok-left-in-Binary.left in
    let r = c.in_ok-right-in-Binary.right in
    rw (c.in-Binary.is, sym c.deref-in-Binary.ensures, sym c.deref-in-Binary-2.ensures)
    (answers_as c.joined.result (joined_checks c.in-Binary.op l r c.in-Binary.place) (node_checks ns (tree.Binary c.in-Binary.op a b c.in-Binary.place))
    (binary_checks ns a b c.in-Binary.op c.in-Binary.place l r c.in_ok-left-in-Binary.ensures.fault c.in_ok-left-in-Binary.ensures.node c.in_ok-right-in-Binary.ensures.fault c.in_ok-right-in-Binary.ensures.node) c.joined.ensures.fault)
