use Rattle.std.proofs.Common.{◌↔◌, drop}
use Rattle.hys_lin.specs.Sums.{at, HoldAll}
use Rattle.hys_lin.specs.declared.lost.Lost.{Lost}
use Rattle.hys_sys.specs.Solution.{LostAt}
use Rattle.hys_sys.proofs.solves.rows_hold.Given as goal

-- the rows that are still to be tried decide
abbrev pub invariant-loop-row : goal.invariant-loop-row
invariant-loop-row l = record {
  hold : HoldAll (at l.point.values) l.rows ↔ HoldAll (at l.point.values) (drop l.row-index l.rows);
  lost : (s : Lost) → LostAt l.rows l.point.values s ↔ LostAt (drop l.row-index l.rows) l.point.values s;
}
