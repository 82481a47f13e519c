use Rattle.std.proofs.Common.{rules, ◌∙◌, sym, ap, length}
use Rattle.hys_lin.specs.Ranges.{box_at}
use Rattle.hys_lin.specs.Operations.{first_lost}
use Rattle.hys_relax.specs.BoundSum.{joined_to, coefficient_operations, constant_operations, end_operations, summed_coefficient, summed_constant}
use Rattle.hys_lagrange.specs.Costs.{with_cost}
use Rattle.hys_lagrange.proofs.Gathering.{coefficients_at}
use Rattle.hys_lagrange.proofs.Summed.{answers_lost, answers_first, second_lost, whole_lost, ends_are, sums_are}
use Rattle.hys_lagrange.proofs.bound.bound_sum.Goals as goal

Nothing : Type 0
Nothing = Unit {0}

pub returns-in_err-coefficients-clause-lost : goal.returns-in_err-coefficients-clause-lost
returns-in_err-coefficients-clause-lost c = answers_first Nothing c.from_residual.result c.in_err-coefficients.field-0.0 (joined_to (length c.args.problem.now.boxes) (coefficient_operations (with_cost c.args.problem.now c.args.cost.now) c.args.pairs.now))
    (constant_operations (with_cost c.args.problem.now c.args.cost.now) c.args.pairs.now)
    (end_operations (summed_constant (with_cost c.args.problem.now c.args.cost.now) c.args.pairs.now) (summed_coefficient (with_cost c.args.problem.now c.args.cost.now) c.args.pairs.now) (box_at c.args.boxes.now) (length c.args.problem.now.boxes))
    (search rules) c.in_err-coefficients.ensures.lost

pub returns-in_err-start-clause-lost : goal.returns-in_err-start-clause-lost
returns-in_err-start-clause-lost c = answers_lost c.from_residual-in_err-start.result c.in_err-start.field-0.0 _ (search rules)
    (second_lost (joined_to (length c.args.problem.now.boxes) (coefficient_operations (with_cost c.args.problem.now c.args.cost.now) c.args.pairs.now))
    (constant_operations (with_cost c.args.problem.now c.args.cost.now) c.args.pairs.now)
    (end_operations (summed_constant (with_cost c.args.problem.now c.args.cost.now) c.args.pairs.now) (summed_coefficient (with_cost c.args.problem.now c.args.cost.now) c.args.pairs.now) (box_at c.args.boxes.now) (length c.args.problem.now.boxes))
    c.in_err-start.field-0.0 c.in_ok-coefficients.ensures.lost c.in_err-start.ensures.lost)

pub ends_sum-requires : goal.ends_sum-requires
ends_sum-requires c = c.requires.boxes ∙ sym (ap length c.as_slice.ensures.value ∙ c.in_ok-coefficients.ensures.value.long)

pub returns-in_err-sum-clause-lost : goal.returns-in_err-sum-clause-lost
returns-in_err-sum-clause-lost c = answers_lost c.from_residual-in_err-sum.result c.in_err-sum.field-0.0 _ (search rules)
    (whole_lost (joined_to (length c.args.problem.now.boxes) (coefficient_operations (with_cost c.args.problem.now c.args.cost.now) c.args.pairs.now))
    (constant_operations (with_cost c.args.problem.now c.args.cost.now) c.args.pairs.now)
    (end_operations (summed_constant (with_cost c.args.problem.now c.args.cost.now) c.args.pairs.now) (summed_coefficient (with_cost c.args.problem.now c.args.cost.now) c.args.pairs.now) (box_at c.args.boxes.now) (length c.args.problem.now.boxes))
    c.in_ok-coefficients.ensures.lost (sym c.in_ok-start.ensures.lost)
    ∙ ap first_lost (sym (ends_are (length c.args.problem.now.boxes) (length c.args.boxes.now) c.in_ok-start.start _ (summed_coefficient (with_cost c.args.problem.now c.args.cost.now) c.args.pairs.now) (box_at c.args.boxes.now) c.as_slice.result.now
    (coefficients_at (with_cost c.args.problem.now c.args.cost.now) c.args.pairs.now _ c.as_slice.result.now c.as_slice.ensures.value c.in_ok-coefficients.ensures.value) c.requires.boxes c.in_ok-start.ensures.value))
    ∙ sym c.in_err-sum.ensures.lost)

pub returns-clause-value : goal.returns-clause-value
returns-clause-value c = c.in_ok-sum.ensures.value ∙ sums_are (length c.args.problem.now.boxes) (length c.args.boxes.now) c.in_ok-start.start _ (summed_coefficient (with_cost c.args.problem.now c.args.cost.now) c.args.pairs.now) (box_at c.args.boxes.now) c.as_slice.result.now
    (coefficients_at (with_cost c.args.problem.now c.args.cost.now) c.args.pairs.now _ c.as_slice.result.now c.as_slice.ensures.value c.in_ok-coefficients.ensures.value) c.requires.boxes c.in_ok-start.ensures.value

pub returns-clause-lost : goal.returns-clause-lost
returns-clause-lost c =
    whole_lost (joined_to (length c.args.problem.now.boxes) (coefficient_operations (with_cost c.args.problem.now c.args.cost.now) c.args.pairs.now))
    (constant_operations (with_cost c.args.problem.now c.args.cost.now) c.args.pairs.now)
    (end_operations (summed_constant (with_cost c.args.problem.now c.args.cost.now) c.args.pairs.now) (summed_coefficient (with_cost c.args.problem.now c.args.cost.now) c.args.pairs.now) (box_at c.args.boxes.now) (length c.args.problem.now.boxes))
    c.in_ok-coefficients.ensures.lost (sym c.in_ok-start.ensures.lost)
    ∙ ap first_lost (sym (ends_are (length c.args.problem.now.boxes) (length c.args.boxes.now) c.in_ok-start.start _ (summed_coefficient (with_cost c.args.problem.now c.args.cost.now) c.args.pairs.now) (box_at c.args.boxes.now) c.as_slice.result.now
    (coefficients_at (with_cost c.args.problem.now c.args.cost.now) c.args.pairs.now _ c.as_slice.result.now c.as_slice.ensures.value c.in_ok-coefficients.ensures.value) c.requires.boxes c.in_ok-start.ensures.value))
    ∙ sym c.in_ok-sum.ensures.lost
