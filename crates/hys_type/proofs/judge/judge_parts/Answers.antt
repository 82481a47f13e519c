use Rattle.std.proofs.Common.{[], List, ◌++◌, map, ap, sym, ◌∙◌}
use Rattle.hys_ast.specs.Seen.{decl_of, item_of}
use Rattle.hys_type.specs.Faults.{first_fault}
use Rattle.hys_type.specs.Walks.{walk}
use Rattle.hys_type.specs.Declarations.{known, name_checks, value_checks, box_checks}
use Rattle.hys_type.specs.Checks.{scope_by, item_checks, missing_checks}
use Rattle.hys_type.specs.declared.constant.Known.{Known}
use Rattle.hys_type.proofs.Firsts.{handed, fault_after}
use Rattle.hys_type.proofs.Operators.{fault_first, fault_behind}
use Rattle.hys_type.proofs.Wholes.{names_differ}
use Rattle.hys_type.proofs.judge.judge_parts.Goals as goal

pub returns-in_err-check_names-clause-fault : goal.returns-in_err-check_names-clause-fault
returns-in_err-check_names-clause-fault c =
    let ds = map decl_of c.args.decls.now in
    let is = map item_of c.args.items.now in
    let us = walk name_checks [] ds in
    let vs = walk (value_checks ds) [] ds in
    let ws = walk (λ before d. box_checks (known ds ds) d) [] ds in
    let xs = walk (item_checks (scope_by ds)) [] is ++ walk (λ before d. missing_checks is d) [] ds in
    handed c.from_residual.result _ (us ++ (vs ++ (ws ++ xs))) c.from_residual.ensures (fault_first us (vs ++ (ws ++ xs)) _ (λ n. c.in_err-check_names.ensures))

pub returns-in_err-known-clause-fault : goal.returns-in_err-known-clause-fault
returns-in_err-known-clause-fault c =
    let ds = map decl_of c.args.decls.now in
    let is = map item_of c.args.items.now in
    let us = walk name_checks [] ds in
    let vs = walk (value_checks ds) [] ds in
    let ws = walk (λ before d. box_checks (known ds ds) d) [] ds in
    let xs = walk (item_checks (scope_by ds)) [] is ++ walk (λ before d. missing_checks is d) [] ds in
    handed c.from_residual-in_err-known.result _ (us ++ (vs ++ (ws ++ xs))) c.from_residual-in_err-known.ensures
    (fault_behind us (vs ++ (ws ++ xs)) _ c.in_ok-check_names.ensures (fault_first vs (ws ++ xs) _ c.in_err-known.ensures.fault))

pub returns-in_err-names-clause-fault : goal.returns-in_err-names-clause-fault
returns-in_err-names-clause-fault c =
    let ds = map decl_of c.args.decls.now in
    let is = map item_of c.args.items.now in
    let us = walk name_checks [] ds in
    let vs = walk (value_checks ds) [] ds in
    let ws = walk (λ before d. box_checks (known ds ds) d) [] ds in
    let xs = walk (item_checks (scope_by ds)) [] is ++ walk (λ before d. missing_checks is d) [] ds in
    let e = ap (λ (ks : List Known). first_fault (walk (λ before d. box_checks ks d) [] ds)) (c.deref.ensures.value ∙ c.in_ok-known.ensures.known) in
    handed c.from_residual-in_err-names.result _ (us ++ (vs ++ (ws ++ xs))) c.from_residual-in_err-names.ensures
    (fault_behind us (vs ++ (ws ++ xs)) _ c.in_ok-check_names.ensures (fault_behind vs (ws ++ xs) _ c.in_ok-known.ensures.fault (fault_first ws xs _ (λ n. c.in_err-names.ensures.fault n ∙ e))))

pub judge_items-requires-clause-once : goal.judge_items-requires-clause-once
judge_items-requires-clause-once c = names_differ (map decl_of c.args.decls.now) c.in_ok-check_names.ensures

pub returns-in_err-scope-clause-fault : goal.returns-in_err-scope-clause-fault
returns-in_err-scope-clause-fault c =
    let ds = map decl_of c.args.decls.now in
    let is = map item_of c.args.items.now in
    let us = walk name_checks [] ds in
    let vs = walk (value_checks ds) [] ds in
    let ws = walk (λ before d. box_checks (known ds ds) d) [] ds in
    let xs = walk (item_checks (scope_by ds)) [] is ++ walk (λ before d. missing_checks is d) [] ds in
    let e = ap (λ (ks : List Known). first_fault (walk (λ before d. box_checks ks d) [] ds)) (c.deref.ensures.value ∙ c.in_ok-known.ensures.known) in
    handed c.from_residual-in_err-scope.result _ (us ++ (vs ++ (ws ++ xs))) c.from_residual-in_err-scope.ensures
    (fault_behind us (vs ++ (ws ++ xs)) _ c.in_ok-check_names.ensures (fault_behind vs (ws ++ xs) _ c.in_ok-known.ensures.fault (fault_behind ws xs _ (c.in_ok-names.ensures.fault ∙ e) c.in_err-scope.ensures.fault)))

pub returns-clause-fault : goal.returns-clause-fault
returns-clause-fault c =
    let ds = map decl_of c.args.decls.now in
    let is = map item_of c.args.items.now in
    let us = walk name_checks [] ds in
    let vs = walk (value_checks ds) [] ds in
    let ws = walk (λ before d. box_checks (known ds ds) d) [] ds in
    let xs = walk (item_checks (scope_by ds)) [] is ++ walk (λ before d. missing_checks is d) [] ds in
    let e = ap (λ (ks : List Known). first_fault (walk (λ before d. box_checks ks d) [] ds)) (c.deref.ensures.value ∙ c.in_ok-known.ensures.known) in
    c.in_ok-scope.ensures.fault ∙ sym (fault_after ws xs (c.in_ok-names.ensures.fault ∙ e)) ∙ sym (fault_after vs (ws ++ xs) c.in_ok-known.ensures.fault) ∙ sym (fault_after us (vs ++ (ws ++ xs)) c.in_ok-check_names.ensures)
