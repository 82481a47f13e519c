use Rattle.hys_tab.specs.Cells.{cell_at}
use Rattle.hys_tab.proofs.Steps.{down_fits}
use Rattle.hys_tab.proofs.cells.first_in_row.Goals as goal

pub returns-then-is_zero : goal.returns-then-is_zero
returns-then-is_zero c = λ j l. down_fits (cell_at c.args.cells.now c.args.pivot.width) c.args.pivot.row c.args.pivot.column c.args.i j c.cell.result c.if-i-pivot.true c.cell.ensures (c.is_zero.ensures.0 c.if-is_zero.true)
    (c.requires.fit c.args.i j c.requires.row_i l)
