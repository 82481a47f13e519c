use Rattle.std.proofs.Common.{◌≡◌, ◌++◌, drop, map}
use Rattle.hys_sim.specs.Checks.{first_fault}
use Rattle.hys_sim.specs.Tables.{missing_checks, places_under}
use Rattle.hys_sim.proofs.header.places_of.Given as goal

abbrev pub invariant-loop-name : goal.invariant-loop-name
invariant-loop-name l = record {
  judged : first_fault (missing_checks l.which (map (λ k. k.now) l.names) (map (λ t. t.now) l.columns)) ≡
      first_fault (missing_checks l.which (map (λ k. k.now) (drop l.name-index l.names)) (map (λ t. t.now) l.columns));
  value : l.places.items ++ places_under (map (λ k. k.now) (drop l.name-index l.names)) (map (λ t. t.now) l.columns) ≡ places_under (map (λ k. k.now) l.names) (map (λ t. t.now) l.columns);
}
