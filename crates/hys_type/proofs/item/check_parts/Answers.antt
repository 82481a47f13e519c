use Rattle.std.proofs.Common.{map, ◌++◌}
use Rattle.hys_ast.specs.Seen.{tree_of, maybe_tree_of}
use Rattle.hys_ast.specs.declared.source.Kind.TheVariants as kind
use Rattle.hys_type.specs.Declarations.{if_some}
use Rattle.hys_type.specs.Checks.{of_kind}
use Rattle.hys_type.specs.Operands.{seen}
use Rattle.hys_type.proofs.Firsts.{handed}
use Rattle.hys_type.proofs.Operators.{fault_first, fault_behind, answers_behind}
use Rattle.hys_type.proofs.item.check_parts.Goals as goal

pub returns-in_err-check_formula : goal.returns-in_err-check_formula
returns-in_err-check_formula c =
    let ns = map seen c.args.scope.now in
    let a = of_kind kind.Bool ns (tree_of c.args.when.now) in
    let rest = of_kind kind.Real ns (tree_of c.args.hit.now) ++ if_some (of_kind kind.Real ns) (maybe_tree_of c.args.other.now) in
    handed c.from_residual.result _ (a ++ rest) c.from_residual.ensures (fault_first a rest _ c.in_err-check_formula.ensures)

pub returns-in_err-check_real : goal.returns-in_err-check_real
returns-in_err-check_real c =
    let ns = map seen c.args.scope.now in
    let a = of_kind kind.Bool ns (tree_of c.args.when.now) in
    let b = of_kind kind.Real ns (tree_of c.args.hit.now) in
    let o = if_some (of_kind kind.Real ns) (maybe_tree_of c.args.other.now) in
    handed c.from_residual-in_err-check_real.result _ (a ++ (b ++ o)) c.from_residual-in_err-check_real.ensures (fault_behind a (b ++ o) _ c.in_ok-check_formula.ensures (fault_first b o _ c.in_err-check_real.ensures))

pub returns : goal.returns
returns c =
    let ns = map seen c.args.scope.now in
    let a = of_kind kind.Bool ns (tree_of c.args.when.now) in
    let b = of_kind kind.Real ns (tree_of c.args.hit.now) in
    let o = if_some (of_kind kind.Real ns) (maybe_tree_of c.args.other.now) in
    answers_behind c.check_else.result a (b ++ o) c.in_ok-check_formula.ensures (answers_behind c.check_else.result b o c.in_ok-check_real.ensures c.check_else.ensures)
