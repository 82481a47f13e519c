use Rattle.std.proofs.Common.{◌≡◌, ◌++◌, take, drop}
use Rattle.hys_logic.specs.Tables.{placed}
use Rattle.hys_logic.proofs.table.place.Given as goal

-- the settings so far stand before the place
abbrev pub invariant-loop-place : goal.invariant-loop-place
invariant-loop-place l = record {
  same : l.settings.items ≡ l.fn.settings.items;
  before : placed l.own l.settings.items ≡ take l.place l.settings.items ++ placed l.own (drop l.place l.settings.items);
}
