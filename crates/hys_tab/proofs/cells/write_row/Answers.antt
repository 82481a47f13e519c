use Rattle.hys_tab.specs.Cells.{cell_at}
use Rattle.hys_tab.proofs.Steps.{down_value}
use Rattle.hys_tab.proofs.cells.write_row.Goals as goal

pub returns-then-is_zero-clause-there : goal.returns-then-is_zero-clause-there
returns-then-is_zero-clause-there c = λ b l. down_value (cell_at c.args.cells.now c.args.pivot.width) c.args.pivot.row c.args.pivot.column c.args.i b c.cell.result c.if-i-pivot.true c.cell.ensures (c.is_zero.ensures.0 c.if-is_zero.true)
