use Rattle.std.proofs.Common.{◌≡◌, ℕ, length}
use Rattle.hys_lagrange.specs.Fixed.{AreWithin}
use Rattle.hys_check.specs.Walk.{pending}
use Rattle.hys_check.proofs.walk.turn.Given as goal

abbrev pub invariant-loop-path : goal.invariant-loop-path
invariant-loop-path l = record {
  same : pending l.path.items ≡ pending l.fn.path.items;
  within : (n : ℕ) → AreWithin n l.fn.path.items → AreWithin n l.path.items;
}

abbrev pub decreases-loop-path : goal.decreases-loop-path
decreases-loop-path l = length l.path.items
