use Rattle.std.proofs.Common.{◌≤◌, refl, arith}
use Rattle.std.proofs.lemmas.Result.{IfOk-weaker}
use Rattle.hys_ast.specs.Seen.{tree_of}
use Rattle.hys_ast.specs.Nodes.{nodes}
use Rattle.hys_ast.specs.Printed.{name, number}
use Rattle.hys_ast.proofs.Spines.{up_smaller, up_turn}
use Rattle.hys_ast.proofs.print_expr.+expressions.Goals as goal

pub single-returns-in-Number : goal.single-returns-in-Number
single-returns-in-Number t c = rw c.in-Number.is (IfOk-weaker c.put_text.result _ _ (λ u e rest. e (number c.in-Number.text) rest refl) c.put_text.ensures)

pub single-returns-in-Name : goal.single-returns-in-Name
single-returns-in-Name t c = rw c.in-Name.is (IfOk-weaker c.put_text-in-Name.result _ _ (λ u e rest. e (name c.in-Name.name) rest refl) c.put_text-in-Name.ensures)

pub expression-right_side-requires : goal.expression-right_side-requires
expression-right_side-requires t c =
    let less : nodes (tree_of c.in-Some.outer.now) ≤ nodes (tree_of c.args.expr.now) =
    up_smaller (λ e. tree_of e.now) (tree_of c.args.expr.now) c.loop-outer.spine.items c.pop.new.self.items c.in-Some.outer c.args.out.now.items c.loop-outer.out.items c.in-Some.ensures.items c.loop-outer.invariant in
    (omega (arith, less), tt)

pub expression-loop-outer-preserved : goal.expression-loop-outer-preserved
expression-loop-outer-preserved t c =
    up_turn (λ e. tree_of e.now) (tree_of c.args.expr.now) c.loop-outer.spine.items c.pop.new.self.items c.in-Some.outer c.args.out.now.items c.loop-outer.out.items _ c.in-Some.ensures.items c.loop-outer.invariant c.in_ok-right_side.ensures
