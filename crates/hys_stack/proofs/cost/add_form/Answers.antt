use Rattle.std.proofs.Common.{◌≡◌, List, Some, rules, subst, None}
use Rattle.hys_lin.specs.declared.form.Term.{Term}
use Rattle.hys_lin.specs.Operations.{first_lost}
use Rattle.hys_stack.specs.Numbers.{term_operations}
use Rattle.hys_stack.proofs.Costs.{form_stops, form_goes}
use Rattle.hys_stack.proofs.Stacked.{err_is}
use Rattle.hys_stack.proofs.cost.add_form.Goals as goal

pub returns-in_err-add_terms-clause-lost : goal.returns-in_err-add_terms-clause-lost
returns-in_err-add_terms-clause-lost c = err_is _ c.from_residual.result c.in_err-add_terms.field-0.0 _ (search rules)
    (form_stops c.args.weight c.args.sums.now.items c.args.constant c.args.form.now.terms c.args.form.now.constant c.in_err-add_terms.field-0.0
    (subst (λ (ts : List Term). Some c.in_err-add_terms.field-0.0 ≡ first_lost (term_operations c.args.weight c.args.sums.now.items ts)) c.items.ensures c.in_err-add_terms.ensures.lost))

pub returns-clause-lost : goal.returns-clause-lost
returns-clause-lost c = form_goes c.args.weight c.args.sums.now.items c.args.constant c.args.form.now.terms c.args.form.now.constant _
    (subst (λ (ts : List Term). None ≡ first_lost (term_operations c.args.weight c.args.sums.now.items ts)) c.items.ensures c.in_ok-add_terms.ensures.lost) c.add_product.ensures.lost
