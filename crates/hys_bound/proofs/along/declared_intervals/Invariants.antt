use Rattle.std.proofs.Common.{◌≡◌, ◌++◌, drop}
use Rattle.hys_bound.specs.Ranges.{declared}
use Rattle.hys_bound.proofs.along.declared_intervals.Given as goal

abbrev pub invariant-loop-name : goal.invariant-loop-name
invariant-loop-name l = l.boxes.items ++ declared (drop l.name-index l.names) ≡ declared l.names
