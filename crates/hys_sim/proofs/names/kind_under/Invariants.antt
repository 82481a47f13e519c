use Rattle.std.proofs.Common.{◌≡◌, drop, map}
use Rattle.hys_sim.specs.Tables.{kind_under}
use Rattle.hys_sim.proofs.names.kind_under.Given as goal

abbrev pub invariant-loop-name : goal.invariant-loop-name
invariant-loop-name l = kind_under (map (λ k. k.now) l.names) l.text ≡ kind_under (map (λ k. k.now) (drop l.name-index l.names)) l.text
