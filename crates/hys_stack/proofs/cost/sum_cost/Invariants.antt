use Rattle.std.proofs.Common.{◌≡◌, ◌++◌, ◌-◌}
use Rattle.hys_number.specs.Ops.{whole}
use Rattle.hys_lin.specs.Operations.{first_lost}
use Rattle.hys_stack.specs.Stacking.{each_step}
use Rattle.hys_stack.specs.Numbers.{step_operations, step_coefficients, constant_after, cost_constant}
use Rattle.hys_stack.proofs.cost.sum_cost.Given as goal

abbrev pub invariant-loop-step : goal.invariant-loop-step
invariant-loop-step l = record {
  sums : l.sums.items ++ each_step l.step (l.request.horizon - l.step) (step_coefficients l.system l.request) ≡ each_step 0 l.request.horizon (step_coefficients l.system l.request);
  constant : constant_after l.system l.request (l.request.horizon - l.step) l.constant ≡ cost_constant l.system l.request;
  lost : first_lost (step_operations l.system l.request (l.request.horizon - l.step) l.constant) ≡ first_lost (step_operations l.system l.request l.request.horizon (whole 0));
}
