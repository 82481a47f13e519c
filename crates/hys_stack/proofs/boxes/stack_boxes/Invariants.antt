use Rattle.std.proofs.Common.{◌≡◌, ◌++◌, ◌-◌}
use Rattle.hys_stack.specs.Stacking.{each_step, step_boxes}
use Rattle.hys_stack.proofs.boxes.stack_boxes.Given as goal

abbrev pub invariant-loop-step : goal.invariant-loop-step
invariant-loop-step l = l.boxes.items ++ each_step l.step (l.request.horizon - l.step) (step_boxes l.system l.request) ≡ each_step 0 l.request.horizon (step_boxes l.system l.request)
