use Rattle.std.proofs.Common.{◌≡◌, map, take, string_bytes}
use Rattle.hys_type.specs.Indexed.{texts}
use Rattle.hys_type.proofs.scope.Scope.of.Given as goal

abbrev pub invariant-loop-name : goal.invariant-loop-name
invariant-loop-name l = map string_bytes l.places.keys ≡ texts (take l.name-index l.name-items)
