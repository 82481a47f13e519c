use Rattle.std.proofs.Common.{◌≡◌, map, take}
use Rattle.hys_compile.specs.Sources.{text_at}
use Rattle.hys_compile.proofs.defining.texts_of.Given as goal

abbrev pub invariant-loop-place : goal.invariant-loop-place
invariant-loop-place l = l.texts.items ≡ map (text_at l.names) (take l.place-index l.places)
