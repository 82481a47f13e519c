use Rattle.std.proofs.Common.{drop}
use Rattle.hys_tree.specs.Multiplied.{AreMultiplied}
use Rattle.hys_answer.proofs.rising.are_multiplied.Given as goal

abbrev pub invariant-loop-place : goal.invariant-loop-place
invariant-loop-place l = AreMultiplied (drop l.place-index l.places) → AreMultiplied l.places
