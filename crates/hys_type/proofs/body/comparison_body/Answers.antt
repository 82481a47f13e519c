use Rattle.std.proofs.Common.{map, sym, ◌∙◌}
use Rattle.hys_ast.specs.Seen.{tree_of}
use Rattle.hys_ast.specs.Tree as tree
use Rattle.hys_type.specs.Operands.{seen}
use Rattle.hys_type.specs.Built.{setting_of}
use Rattle.hys_type.proofs.Bodies.{must_most_built, must_zero_built}
use Rattle.hys_type.proofs.body.comparison_body.Goals as goal

pub returns-then-is_inequality : goal.returns-then-is_inequality
returns-then-is_inequality c = λ j.
    rw (c.in-Binary.is, sym c.deref.ensures, sym c.deref-then-is_inequality.ensures)
    (must_most_built (setting_of (map seen c.args.scope.now) c.args.known.now c.args.eps) j c.args.kind (tree.Binary c.in-Binary.op (tree_of c.deref.result.now) (tree_of c.deref-then-is_inequality.result.now) c.in-Binary.place) c.in_ok-guard_number-in-Binary.field-0
    (sym c.is_inequality.ensures ∙ c.if-is_inequality.true) c.in_ok-guard_number-in-Binary.ensures)

pub returns-in_ok-difference-in-Equal : goal.returns-in_ok-difference-in-Equal
returns-in_ok-difference-in-Equal c = λ j.
    rw (c.in-Binary.is, c.in-Equal.is, sym c.deref-in-Equal.ensures, sym c.deref-in-Equal-2.ensures)
    (must_zero_built (setting_of (map seen c.args.scope.now) c.args.known.now c.args.eps) j c.args.kind (tree_of c.deref-in-Equal.result.now) (tree_of c.deref-in-Equal-2.result.now) c.in-Binary.place c.in_ok-difference-in-Equal.field-0 c.in_ok-difference-in-Equal.ensures)
