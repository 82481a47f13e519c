use Rattle.std.proofs.Common.{◌≡◌, ◌+◌, ◌*◌, ◌<◌}
use Rattle.std.specs.Ordering.{nat_cmp}
use Rattle.hys_frac.proofs.quotients.cmp_ratios.Given as goal

-- the two ratios now are in the order of those at the start
abbrev pub invariant-turns : goal.invariant-turns
invariant-turns l = record {
  first : 0 < l.left.1;
  second : 0 < l.right.1;
  order : nat_cmp (l.left.0 * l.right.1) (l.right.0 * l.left.1) ≡ nat_cmp (l.fn.x * l.fn.w) (l.fn.z * l.fn.y);
}

abbrev pub decreases-turns : goal.decreases-turns
decreases-turns l = l.left.1 + l.right.1
