use Rattle.std.proofs.Common.{◌≡◌, ◌*◌, ◌^◌, ◌<◌, ◌≤◌, pos}
use Rattle.hys_number.specs.Gcd.{gcd}
use Rattle.hys_number.specs.Number.{make}
use Rattle.hys_frac.proofs.shift.lowered.Given as goal

-- what is left to divide by, and the quotient so far, reduced
abbrev pub invariant-loop-left : goal.invariant-loop-left
invariant-loop-left l = record {
  small : l.num < 10 ^ 36;
  positive : 0 < l.den;
  short : l.den ≤ 10 * 9223372036854775807;
  reduced : gcd l.num l.den ≡ 1;
  value : make (pos l.num) (l.den * 10 ^ l.left) ≡ make (pos l.fn.number) (10 ^ l.power);
}

abbrev pub decreases-loop-left : goal.decreases-loop-left
decreases-loop-left l = l.left
