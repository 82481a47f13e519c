use Rattle.std.proofs.Common.{◌≡◌, drop}
use Rattle.hys_lin.specs.Sums.{at}
use Rattle.hys_prog.specs.Stops.{first_stop, boxes_from}
use Rattle.hys_prog.specs.Walk.{is_role}
use Rattle.hys_prog.proofs.given.judge_boxes.Given as goal

-- the first stop is that of the names that are still to be judged
abbrev pub invariant-loop-n : goal.invariant-loop-n
invariant-loop-n l = first_stop (boxes_from 0 (is_role l.part) (at l.values) l.names) ≡ first_stop (boxes_from l.n (is_role l.part) (at l.values) (drop l.n l.names))
