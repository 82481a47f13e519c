use Rattle.std.proofs.Common.{◌≡◌, ◌++◌, take, drop}
use Rattle.hys_rows.specs.Moved.{inserted}
use Rattle.hys_rows.proofs.moved.insert.Given as goal

-- the terms so far stand before the place
abbrev pub invariant-loop-place : goal.invariant-loop-place
invariant-loop-place l = record {
  same : l.terms.items ≡ l.fn.terms.items;
  before : inserted l.own l.terms.items ≡ take l.place l.terms.items ++ inserted l.own (drop l.place l.terms.items);
}
