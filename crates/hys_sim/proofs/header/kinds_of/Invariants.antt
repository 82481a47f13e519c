use Rattle.std.proofs.Common.{◌≡◌, ◌++◌, [], drop, take, map}
use Rattle.hys_sim.specs.Checks.{first_fault}
use Rattle.hys_sim.specs.Tables.{column_checks, kind_of}
use Rattle.hys_sim.proofs.header.kinds_of.Given as goal

abbrev pub invariant-loop-place : goal.invariant-loop-place
invariant-loop-place l = record {
  judged : first_fault (column_checks l.which (map (λ k. k.now) l.names) [] (map (λ t. t.now) l.columns)) ≡
      first_fault (column_checks l.which (map (λ k. k.now) l.names) (map (λ t. t.now) (take l.place l.columns)) (map (λ t. t.now) (drop l.place l.columns)));
  value : l.kinds.items ++ map (kind_of (map (λ k. k.now) l.names)) (map (λ t. t.now) (drop l.place l.columns)) ≡ map (kind_of (map (λ k. k.now) l.names)) (map (λ t. t.now) l.columns);
}
