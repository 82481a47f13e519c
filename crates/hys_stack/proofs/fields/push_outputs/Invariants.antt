use Rattle.std.proofs.Common.{◌≡◌, ◌++◌, map, drop}
use Rattle.hys_stack.specs.Reading.{output_name}
use Rattle.hys_stack.proofs.fields.push_outputs.Given as goal

abbrev pub invariant-loop-output : goal.invariant-loop-output
invariant-loop-output l =
    map (λ k. k.now) l.names.items ++ map output_name (drop l.output-index l.outputs) ≡ map (λ k. k.now) l.fn.names.items ++ map output_name l.outputs
