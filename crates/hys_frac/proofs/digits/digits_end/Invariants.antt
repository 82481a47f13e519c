use Rattle.std.proofs.Common.{length, ◌-◌, ◌≡◌, ◌≤◌}
use Rattle.std.specs.Float.Numeral.{digits_end}
use Rattle.hys_frac.proofs.digits.digits_end.Given as goal

abbrev pub invariant-loop-at : goal.invariant-loop-at
invariant-loop-at l = record { from : l.from ≤ l.at; within : l.at ≤ length l.text; end : digits_end l.text l.from ≡ digits_end l.text l.at }

abbrev pub decreases-loop-at : goal.decreases-loop-at
decreases-loop-at l = length l.text - l.at
