use Rattle.std.proofs.Common.{◌≡◌, ◌++◌, [], replicate}
use Rattle.hys_sim.specs.Written.{after_commas}
use Rattle.hys_sim.proofs.writing.write_empty.Given as goal

abbrev pub invariant-loop-left : goal.invariant-loop-left
invariant-loop-left l = l.out.items ++ after_commas (replicate l.left []) ≡ l.initial.out.items ++ after_commas (replicate l.fn.count [])

abbrev pub decreases-loop-left : goal.decreases-loop-left
decreases-loop-left l = l.left
