use Rattle.std.proofs.Common.{drop}
use Rattle.hys_bound.specs.Ranges.{declared}
use Rattle.hys_bound.proofs.Turns.{Onward}
use Rattle.hys_bound.proofs.along.bounds.Given as goal

-- what is still to be found from here on is what is to be found from the start
abbrev pub invariant-loop-name : goal.invariant-loop-name
invariant-loop-name l = Onward l.program.items l.order.names (declared l.program.names) l.boxes.items (drop l.name-index l.order.names)
