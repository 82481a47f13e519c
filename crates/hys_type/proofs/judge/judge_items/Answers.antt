use Rattle.std.proofs.Common.{[], ◌++◌, map, ap, sym, ◌∙◌}
use Rattle.hys_ast.specs.Seen.{decl_of, item_of}
use Rattle.hys_type.specs.Faults.{first_fault}
use Rattle.hys_type.specs.Walks.{walk}
use Rattle.hys_type.specs.Checks.{scope_by, item_checks, missing_checks}
use Rattle.hys_type.specs.Operands.{seen}
use Rattle.hys_type.proofs.Firsts.{handed, fault_after}
use Rattle.hys_type.proofs.Operators.{fault_first, fault_behind}
use Rattle.hys_type.proofs.Wholes.{same_items}
use Rattle.hys_type.proofs.judge.judge_items.Goals as goal

pub returns-in_err-check_items-clause-fault : goal.returns-in_err-check_items-clause-fault
returns-in_err-check_items-clause-fault c =
    let ds = map decl_of c.args.decls.now in
    let is = map item_of c.args.items.now in
    let xs = walk (item_checks (scope_by ds)) [] is in
    let ys = walk (λ before d. missing_checks is d) [] ds in
    let e = same_items ds is c.args.known.now (map seen c.in_ok-scope.scope) c.requires.once c.requires.known (ap (map seen) c.in_ok-scope.ensures) in
    handed c.from_residual-in_err-check_items.result _ (xs ++ ys) c.from_residual-in_err-check_items.ensures (fault_first xs ys _ (λ n. c.in_err-check_items.ensures n ∙ ap first_fault e))

pub returns-in_err-check_all_defined-clause-fault : goal.returns-in_err-check_all_defined-clause-fault
returns-in_err-check_all_defined-clause-fault c =
    let ds = map decl_of c.args.decls.now in
    let is = map item_of c.args.items.now in
    let xs = walk (item_checks (scope_by ds)) [] is in
    let ys = walk (λ before d. missing_checks is d) [] ds in
    let e = same_items ds is c.args.known.now (map seen c.in_ok-scope.scope) c.requires.once c.requires.known (ap (map seen) c.in_ok-scope.ensures) in
    handed c.from_residual-in_err-check_all_defined.result _ (xs ++ ys) c.from_residual-in_err-check_all_defined.ensures (fault_behind xs ys _ (c.in_ok-check_items.ensures ∙ ap first_fault e) c.in_err-check_all_defined.ensures)

pub returns-clause-fault : goal.returns-clause-fault
returns-clause-fault c =
    let ds = map decl_of c.args.decls.now in
    let is = map item_of c.args.items.now in
    let xs = walk (item_checks (scope_by ds)) [] is in
    let ys = walk (λ before d. missing_checks is d) [] ds in
    let e = same_items ds is c.args.known.now (map seen c.in_ok-scope.scope) c.requires.once c.requires.known (ap (map seen) c.in_ok-scope.ensures) in
    c.in_ok-check_all_defined.ensures ∙ sym (fault_after xs ys (c.in_ok-check_items.ensures ∙ ap first_fault e))
