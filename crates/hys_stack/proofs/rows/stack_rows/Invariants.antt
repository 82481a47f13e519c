use Rattle.std.proofs.Common.{◌≡◌, ◌++◌, ◌-◌}
use Rattle.hys_stack.specs.Stacking.{each_step, step_rows, stacked_rows}
use Rattle.hys_stack.proofs.rows.stack_rows.Given as goal

abbrev pub invariant-loop-step : goal.invariant-loop-step
invariant-loop-step l = l.rows.items ++ each_step l.step (l.horizon - l.step) (step_rows l.system) ≡ stacked_rows l.system l.horizon
