use Rattle.std.proofs.Common.{◌≡◌, ◌++◌, drop, take, length}
use Rattle.hys_lin.specs.Operations.{first_lost, result_of}
use Rattle.hys_type.specs.Dense.{between, zipped}
use Rattle.hys_type.proofs.dense.pointwise.Given as goal

abbrev pub invariant-loop-at : goal.invariant-loop-at
invariant-loop-at l =
    (length l.results.items ≡ length l.right)
    × (take l.at l.results.items ++ zipped (result_of l.fn.op) (drop l.at l.results.items) (drop l.at l.right) ≡ zipped (result_of l.fn.op) l.fn.left.items l.right)
    × (first_lost (zipped (between l.fn.op) (drop l.at l.results.items) (drop l.at l.right)) ≡ first_lost (zipped (between l.fn.op) l.fn.left.items l.right))
