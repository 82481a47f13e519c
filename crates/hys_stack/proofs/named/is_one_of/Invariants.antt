use Rattle.std.proofs.Common.{◌≡◌, map, drop}
use Rattle.hys_json.specs.Values.{is_one_of}
use Rattle.hys_stack.proofs.named.is_one_of.Given as goal

abbrev pub invariant-loop-name : goal.invariant-loop-name
invariant-loop-name l = is_one_of (map (λ k. k.now) l.names) l.key ≡ is_one_of (map (λ k. k.now) (drop l.name-index l.names)) l.key
