use Rattle.std.proofs.Common.{◌≡◌, length}
use Rattle.hys_prog.specs.Places.{AreFound}
use Rattle.hys_prog.proofs.definition.definitions.Given as goal

-- of each name that the items so far define the place of one is noted
abbrev pub invariant-loop-k : goal.invariant-loop-k
invariant-loop-k l = (length l.places.items ≡ length l.program.names) × AreFound l.program.items l.k l.places.items
