use Rattle.std.proofs.Common.{◌≡◌, ◌+◌, length}
use Rattle.hys_tab.specs.Table.{tableau_of}
use Rattle.hys_dual.proofs.Standings.{RowsStand, ColumnsStand}
use Rattle.hys_dual.proofs.stand.stands.Given as goal

abbrev pub invariant-loop-row : goal.invariant-loop-row
invariant-loop-row l = record {
  long : length l.list.items ≡ l.columns + l.rows;
  rows : RowsStand (tableau_of l.tableau) l.row l.list.items;
}

abbrev pub invariant-loop-column : goal.invariant-loop-column
invariant-loop-column l = record {
  long : length l.list.items ≡ l.columns + l.rows;
  rows : RowsStand (tableau_of l.tableau) l.rows l.list.items;
  columns : ColumnsStand (tableau_of l.tableau) l.column l.list.items;
}
