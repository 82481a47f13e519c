use Rattle.std.proofs.Common.{ap, sym, ◌∙◌, rules, refl, List, Vec, Global}
use Rattle.hys_number.specs.Number.{Number}
use Rattle.hys_frac.specs.declared.frac.Frac.{Frac}
use Rattle.hys_lin.specs.Operations.{first_lost}
use Rattle.hys_lin.specs.declared.form.Interval.{Interval}
use Rattle.hys_stack.specs.Numbers.{plain_operations}
use Rattle.hys_stack.specs.Terms.{terms_from}
use Rattle.hys_stack.proofs.Problems.{start_few, is_problem}
use Rattle.hys_stack.proofs.Stacked.{outputs_over, first_answer, second_answer, both_answers, same_long, few_sums, is_stacked, bound_fits}
use Rattle.hys_stack.proofs.stacker.stack.Goals as goal

pub stack_boxes-requires : goal.stack_boxes-requires
stack_boxes-requires c = start_few c.args.system.now c.args.request.now c.requires.request

pub sum_cost-requires-clause-outputs : goal.sum_cost-requires-clause-outputs
sum_cost-requires-clause-outputs c = outputs_over c.args.system.now c.args.request.now c.requires.system c.requires.request

pub returns-in_err-sums-clause-judged : goal.returns-in_err-sums-clause-judged
returns-in_err-sums-clause-judged c = first_answer _ (Vec Frac Global × Number) c.from_residual-in_err-sums.result c.in_err-sums.field-0.0 c.args.system.now c.args.request.now (search rules) c.in_err-sums.ensures.lost

pub check_bound-requires : goal.check_bound-requires
check_bound-requires c = same_long c.args.system.now c.args.request.now _ _ c.requires.request (c.deref.ensures.value ∙ c.in_ok-sums.ensures.sums) (c.deref-2.ensures.value ∙ c.in_ok-boxes.ensures)

pub returns-in_err-check_bound-clause-judged : goal.returns-in_err-check_bound-clause-judged
returns-in_err-check_bound-clause-judged c = second_answer _ c.from_residual-in_err-check_bound.result c.in_err-check_bound.field-0.0 c.args.system.now c.args.request.now c.deref.result.now c.in_ok-sums.constant c.deref-2.result.now
    (search rules) c.in_ok-sums.ensures.lost (c.deref.ensures.value ∙ c.in_ok-sums.ensures.sums) c.in_ok-sums.ensures.constant (c.deref-2.ensures.value ∙ c.in_ok-boxes.ensures) c.in_err-check_bound.ensures

pub terms_of-requires : goal.terms_of-requires
terms_of-requires c = few_sums c.args.system.now c.args.request.now _ c.requires.system c.requires.request (c.deref-3.ensures.value ∙ c.in_ok-sums.ensures.sums)

pub returns-clause-stacked : goal.returns-clause-stacked
returns-clause-stacked c = is_stacked c.args.system.now c.args.request.now _ c.requires.system c.requires.request (c.of.ensures ∙ c.in_ok-boxes.ensures) c.in_ok-rows.ensures c.in_ok-branch.ensures
    (c.in_ok-terms.ensures ∙ ap (terms_from 0) (c.deref-3.ensures.value ∙ c.in_ok-sums.ensures.sums)) c.in_ok-sums.ensures.constant

pub returns-clause-problem : goal.returns-clause-problem
returns-clause-problem c = is_problem c.args.system.now c.args.request.now _ c.requires.system c.requires.request (is_stacked c.args.system.now c.args.request.now _ c.requires.system c.requires.request (c.of.ensures ∙ c.in_ok-boxes.ensures) c.in_ok-rows.ensures c.in_ok-branch.ensures
    (c.in_ok-terms.ensures ∙ ap (terms_from 0) (c.deref-3.ensures.value ∙ c.in_ok-sums.ensures.sums)) c.in_ok-sums.ensures.constant)

pub returns-clause-fits : goal.returns-clause-fits
returns-clause-fits c = bound_fits (record { boxes = c.of.result; rows = c.in_ok-rows.rows; cost = record { terms = c.in_ok-terms.terms; constant = c.in_ok-sums.constant }; branch = c.in_ok-branch.branch }) c.deref.result.now c.in_ok-sums.constant (c.in_ok-terms.ensures ∙ ap (terms_from 0) (c.deref-3.ensures.value ∙ sym c.deref.ensures.value)) refl
    (ap (λ (is : List Interval). first_lost (plain_operations c.deref.result.now c.in_ok-sums.constant is)) (c.of.ensures ∙ sym c.deref-2.ensures.value) ∙ sym c.in_ok-check_bound.ensures)

pub returns-clause-judged : goal.returns-clause-judged
returns-clause-judged c = both_answers c.args.system.now c.args.request.now c.deref.result.now c.in_ok-sums.constant c.deref-2.result.now c.in_ok-sums.ensures.lost
    (c.deref.ensures.value ∙ c.in_ok-sums.ensures.sums) c.in_ok-sums.ensures.constant (c.deref-2.ensures.value ∙ c.in_ok-boxes.ensures) c.in_ok-check_bound.ensures
