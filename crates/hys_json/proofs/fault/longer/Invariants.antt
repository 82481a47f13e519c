use Rattle.std.proofs.Common.{◌≡◌, ◌∷◌, ◌++◌}
use Rattle.hys_json.proofs.fault.longer.Given as goal

abbrev pub invariant-loop-step : goal.invariant-loop-step
invariant-loop-step l = l.steps.items ++ l.step-iterator.rest.items ≡ l.key ∷ l.fn.path
