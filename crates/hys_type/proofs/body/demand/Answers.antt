use Rattle.std.proofs.Common.{map, length, ◌+◌, ℕ, sym, ◌∙◌}
use Rattle.hys_ast.specs.Seen.{tree_of}
use Rattle.hys_meaning.specs.Bodies as said
use Rattle.hys_prog.specs.declared.program.Body.{Body}
use Rattle.hys_type.specs.Operands.{seen}
use Rattle.hys_type.specs.Built.{setting_of, IsBuilt}
use Rattle.hys_type.proofs.Bodies.{must_hold_built, ok_at}
use Rattle.hys_type.proofs.body.demand.Goals as goal

pub returns-then-compares-clause-body : goal.returns-then-compares-clause-body
returns-then-compares-clause-body c =
    ok_at c.comparison_body.result (λ (j : ℕ) (b : Body). IsBuilt (setting_of (map seen c.args.scope.now) c.args.known.now c.args.eps) j c.args.kind (said.Must (tree_of c.args.whole.now)) b)
    (c.args.first + length c.args.guards.now.items) c.comparison_body.ensures

pub returns-clause-body : goal.returns-clause-body
returns-clause-body c =
    must_hold_built (setting_of (map seen c.args.scope.now) c.args.known.now c.args.eps) (c.args.first + length c.args.guards.now.items) c.args.kind (tree_of c.args.whole.now) c.in_ok-formula.field-0
    (sym c.compares.ensures ∙ c.if-compares.false) c.in_ok-formula.ensures.formula
