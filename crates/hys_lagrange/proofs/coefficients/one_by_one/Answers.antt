use Rattle.std.proofs.Common.{rules, ◌∙◌, sym, ap, arith, length}
use Rattle.hys_relax.specs.BoundSum.{coefficient_operations, summed_coefficient}
use Rattle.hys_lagrange.specs.Costs.{with_cost}
use Rattle.hys_lagrange.proofs.Listing.{listed_next}
use Rattle.hys_lagrange.proofs.Summed.{joined_next, joined_lost, answers_lost}
use Rattle.hys_lagrange.proofs.coefficients.one_by_one.Goals as goal

pub returns-in_err-number-clause-lost : goal.returns-in_err-number-clause-lost
returns-in_err-number-clause-lost c = answers_lost c.from_residual.result c.in_err-number.field-0.0 _ (search rules)
    (joined_lost (length c.args.problem.now.boxes) c.loop-column.column (coefficient_operations (with_cost c.args.problem.now c.args.cost.now) c.args.pairs.now) c.in_err-number.field-0.0
    (omega (arith, c.loop-column-test.true, ap length c.items-column-end.ensures)) c.loop-column.invariant.lost (sym c.in_err-number.ensures.lost))

pub loop-column-preserved : goal.loop-column-preserved
loop-column-preserved c = record {
  value = c.in_ok-push.ensures.items ∙ listed_next c.loop-column.column (summed_coefficient (with_cost c.args.problem.now c.args.cost.now) c.args.pairs.now) c.loop-column.list.items c.in_ok-number.number c.loop-column.invariant.value c.in_ok-number.ensures.value;
  lost = joined_next c.loop-column.column (coefficient_operations (with_cost c.args.problem.now c.args.cost.now) c.args.pairs.now) c.loop-column.invariant.lost (sym c.in_ok-number.ensures.lost);
}
