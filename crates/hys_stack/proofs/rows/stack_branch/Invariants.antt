use Rattle.std.proofs.Common.{◌≡◌, ◌++◌, ◌-◌}
use Rattle.hys_stack.specs.Stacking.{each_step, step_branch, stacked_branch}
use Rattle.hys_stack.proofs.rows.stack_branch.Given as goal

abbrev pub invariant-loop-step : goal.invariant-loop-step
invariant-loop-step l = l.branch.items ++ each_step l.step (l.horizon - l.step) (step_branch l.system) ≡ stacked_branch l.system l.horizon
