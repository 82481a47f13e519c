use Rattle.std.proofs.Common.{◌≡◌, ◌++◌, drop, map}
use Rattle.hys_lin.specs.Sums.{at}
use Rattle.hys_prog.proofs.given.values_at.Given as goal

abbrev pub invariant-loop-place : goal.invariant-loop-place
invariant-loop-place l = l.numbers.items ++ map (at l.values) (drop l.place-index l.places) ≡ map (at l.values) l.places
