use Rattle.std.proofs.Common.{map}
use Rattle.hys_ast.specs.Seen.{tree_of}
use Rattle.hys_ast.proofs.Spines.{Down}
use Rattle.hys_ast.proofs.print_expr.left_spine.Given as goal

abbrev pub invariant-loop-first : goal.invariant-loop-first
invariant-loop-first l = Down (tree_of l.fn.expr) (tree_of l.first) (map (λ e. tree_of e.now) l.spine.items) l.fn.out.items l.out.items
