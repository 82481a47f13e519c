use Rattle.std.proofs.Common.{◌≡◌, ◌++◌, map, drop}
use Rattle.serde_json.specs.View.{view}
use Rattle.hys_stack.specs.Reading.{output_weight}
use Rattle.hys_stack.proofs.fields.output_weights.Given as goal

abbrev pub invariant-loop-output : goal.invariant-loop-output
invariant-loop-output l = l.weights.items ++ map (output_weight (view l.value)) (drop l.output-index l.outputs) ≡ map (output_weight (view l.value)) l.outputs
