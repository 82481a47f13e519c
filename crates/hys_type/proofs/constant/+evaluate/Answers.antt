use Rattle.std.proofs.Common.{sym, ◌∙◌}
use Rattle.hys_ast.specs.Seen.{tree_of}
use Rattle.hys_type.proofs.Firsts.{failed}
use Rattle.hys_type.proofs.Constants.{left_operand, right_operand, unary_node, binary_node}
use Rattle.hys_type.proofs.constant.+evaluate.Goals as goal

pub returns-in_err-left-in-Binary-clause-fault : goal.returns-in_err-left-in-Binary-clause-fault
returns-in_err-left-in-Binary-clause-fault t c =
    rw (c.in-Binary.is, sym c.deref-in-Binary.ensures)
    (failed _ _ c.from_residual-in_err-left-in-Binary.ensures ∙ left_operand c.args.known.now (tree_of c.deref-in-Binary.result.now) (tree_of c.in-Binary.right.value) c.in-Binary.op c.in-Binary.place _ c.in_err-left-in-Binary.ensures.fault)

pub returns-in_err-right-in-Binary-clause-fault : goal.returns-in_err-right-in-Binary-clause-fault
returns-in_err-right-in-Binary-clause-fault t c =
    rw (c.in-Binary.is, sym c.deref-in-Binary.ensures, sym c.deref-in-Binary-2.ensures)
    (failed _ _ c.from_residual-in_err-right-in-Binary.ensures ∙ right_operand c.args.known.now (tree_of c.deref-in-Binary.result.now) (tree_of c.deref-in-Binary-2.result.now) c.in-Binary.op c.in-Binary.place _ c.in_ok-left-in-Binary.ensures.fault c.in_err-right-in-Binary.ensures.fault)

pub returns-in_ok-operand-in-Unary-clause-fault : goal.returns-in_ok-operand-in-Unary-clause-fault
returns-in_ok-operand-in-Unary-clause-fault t c =
    rw (c.in-Unary.is, sym c.deref.ensures)
    (unary_node c.args.known.now (tree_of c.deref.result.now) c.in-Unary.op c.in-Unary.place c.in_ok-operand-in-Unary.operand _ c.in_ok-operand-in-Unary.ensures.fault c.in_ok-operand-in-Unary.ensures.worth c.signed.ensures.fault)

pub returns-in_ok-right-in-Binary-clause-fault : goal.returns-in_ok-right-in-Binary-clause-fault
returns-in_ok-right-in-Binary-clause-fault t c =
    rw (c.in-Binary.is, sym c.deref-in-Binary.ensures, sym c.deref-in-Binary-2.ensures)
    (binary_node c.args.known.now (tree_of c.deref-in-Binary.result.now) (tree_of c.deref-in-Binary-2.result.now) c.in-Binary.op c.in-Binary.place c.in_ok-left-in-Binary.left c.in_ok-right-in-Binary.right _ c.in_ok-left-in-Binary.ensures.fault c.in_ok-left-in-Binary.ensures.worth c.in_ok-right-in-Binary.ensures.fault c.in_ok-right-in-Binary.ensures.worth c.joined.ensures.fault)
