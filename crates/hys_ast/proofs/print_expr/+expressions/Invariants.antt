use Rattle.std.proofs.Common.{map, ◌+◌, ◌*◌, length}
use Rattle.hys_ast.specs.Seen.{tree_of}
use Rattle.hys_ast.specs.Nodes.{nodes}
use Rattle.hys_ast.proofs.Spines.{Up}
use Rattle.hys_ast.proofs.print_expr.+expressions.Given as goal

abbrev pub decreases-operand : goal.decreases-operand
decreases-operand l = 3 * nodes (tree_of l.expr.now) + 2

abbrev pub decreases-expression : goal.decreases-expression
decreases-expression l = 3 * nodes (tree_of l.expr.now) + 1

abbrev pub decreases-single : goal.decreases-single
decreases-single l = 3 * nodes (tree_of l.expr.now)

abbrev pub decreases-right_side : goal.decreases-right_side
decreases-right_side l = 3 * nodes (tree_of l.expr.now)

abbrev pub invariant-expression-loop-outer : goal.invariant-expression-loop-outer
invariant-expression-loop-outer l = Up (tree_of l.fn.expr) (map (λ e. tree_of e.now) l.spine.items) l.fn.out.items l.out.items

abbrev pub decreases-expression-loop-outer : goal.decreases-expression-loop-outer
decreases-expression-loop-outer l = length l.spine.items
