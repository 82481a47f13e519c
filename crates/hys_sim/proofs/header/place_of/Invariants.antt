use Rattle.std.proofs.Common.{◌≡◌, ◌+◌, drop, map}
use Rattle.std.specs.List.{position_or_len}
use Rattle.std.specs.Str.{bytes_eq}
use Rattle.hys_sim.specs.Tables.{is_among}
use Rattle.hys_sim.proofs.header.place_of.Given as goal

abbrev pub invariant-loop-place : goal.invariant-loop-place
invariant-loop-place l = record {
  among : is_among l.text (map (λ t. t.now) l.columns) ≡ is_among l.text (map (λ t. t.now) (drop l.place l.columns));
  place : position_or_len (bytes_eq l.text) (map (λ t. t.now) l.columns) ≡ l.place + position_or_len (bytes_eq l.text) (map (λ t. t.now) (drop l.place l.columns));
}
