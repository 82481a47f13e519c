use Rattle.std.proofs.Common.{◌≡◌, drop, length}
use Rattle.hys_lin.specs.Operations.{first_lost}
use Rattle.hys_stack.specs.Numbers.{output_operations, add_outputs, add_constants}
use Rattle.hys_stack.proofs.cost.add_outputs.Given as goal

-- what is still to be added gives the same sums and constant, and loses first what the whole does
abbrev pub invariant-loop-i : goal.invariant-loop-i
invariant-loop-i l = record {
  sums : add_outputs (drop l.i l.weights) (drop l.i l.outputs) l.sums.items ≡ add_outputs l.weights l.outputs l.fn.sums.items;
  long : length l.sums.items ≡ length l.fn.sums.items;
  constant : add_constants (drop l.i l.weights) (drop l.i l.outputs) l.constant ≡ add_constants l.weights l.outputs l.fn.constant;
  lost : first_lost (output_operations l.sums.items l.constant (drop l.i l.weights) (drop l.i l.outputs)) ≡ first_lost (output_operations l.fn.sums.items l.fn.constant l.weights l.outputs);
}
