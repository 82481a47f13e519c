use Rattle.std.proofs.Common.{◌≡◌, length}
use Rattle.hys_tree.specs.Multiplied.{AreMultiplied}
use Rattle.hys_check.proofs.examples.tree.Given as goal

abbrev pub invariant-loop-k : goal.invariant-loop-k
invariant-loop-k l = record {
  long : length l.places.items ≡ l.k;
  multiplied : AreMultiplied l.places.items;
}
