use Rattle.std.proofs.Common.{map, length, ℕ, ◌+◌}
use Rattle.hys_ast.specs.Seen.{tree_of}
use Rattle.hys_ast.specs.Tree as tree
use Rattle.hys_meaning.specs.Bodies.{body_in}
use Rattle.hys_prog.specs.declared.program.Body.{Body}
use Rattle.hys_type.specs.Operands.{seen}
use Rattle.hys_type.specs.Translation.{left_kind}
use Rattle.hys_type.specs.Built.{setting_of, IsBuilt}
use Rattle.hys_type.proofs.Bodies.{ok_at}
use Rattle.hys_type.proofs.body.body_of.Goals as goal

pub returns-in-Wide-clause-body : goal.returns-in-Wide-clause-body
returns-in-Wide-clause-body c =
    rw c.in-Wide.is
    (ok_at c.wide_body.result (λ (j : ℕ) (b : Body). IsBuilt (setting_of (map seen c.args.scope.now) c.args.known.now c.args.eps) j (left_kind (map seen c.args.scope.now) c.args.item.now.name) (body_in c.args.item.now.section (tree.Wide (tree_of c.in-Wide.whole) (tree_of c.in-Wide.tolerance))) b)
    (c.args.first + length c.args.guards.now.items) c.wide_body.ensures.body)
