use Rattle.std.proofs.Common.{◌≡◌, ◌++◌, drop, map}
use Rattle.hys_stack.specs.Stacking.{only}
use Rattle.hys_stack.proofs.boxes.push_only.Given as goal

abbrev pub invariant-loop-number : goal.invariant-loop-number
invariant-loop-number l = l.out.items ++ map only (drop l.number-index l.numbers) ≡ l.fn.out.items ++ map only l.numbers
