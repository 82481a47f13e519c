use Rattle.std.proofs.Common.{◌≡◌, ◌*◌, ◌^◌, ◌<◌}
use Rattle.hys_frac.proofs.shift.raised.Given as goal

-- what is left to multiply
abbrev pub invariant-loop-left : goal.invariant-loop-left
invariant-loop-left l = record { small : l.product < 10 ^ 36; value : l.product * 10 ^ l.left ≡ l.fn.number * 10 ^ l.power }

abbrev pub decreases-loop-left : goal.decreases-loop-left
decreases-loop-left l = l.left
