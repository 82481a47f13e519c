use Rattle.hys_tab.specs.Cells.{cell_at}
use Rattle.hys_tab.proofs.Steps.{corner_value, corner_fits, column_fits, across_value, across_fits}
use Rattle.std.proofs.Common.{refl}
use Rattle.hys_tab.proofs.cells.new_cell.Goals as goal

pub returns-then-j-pivot-clause-value : goal.returns-then-j-pivot-clause-value
returns-then-j-pivot-clause-value c = corner_value (cell_at c.args.cells.now c.args.pivot.width) c.args.pivot.row c.args.pivot.column c.args.i c.args.j c.whole.result c.cell-divisor.result c.div.result c.whole.ensures c.if-i-pivot.true c.if-j-pivot.true c.cell-divisor.ensures c.div.ensures.value

pub returns-then-j-pivot-clause-fits : goal.returns-then-j-pivot-clause-fits
returns-then-j-pivot-clause-fits c = corner_fits (cell_at c.args.cells.now c.args.pivot.width) c.args.pivot.row c.args.pivot.column c.args.i c.args.j c.whole.result c.cell-divisor.result c.div.result c.whole.ensures c.if-i-pivot.true c.if-j-pivot.true c.cell-divisor.ensures c.requires.some c.div.ensures.fits

pub returns-then-j-pivot-2-clause-fits : goal.returns-then-j-pivot-2-clause-fits
returns-then-j-pivot-2-clause-fits c = column_fits (cell_at c.args.cells.now c.args.pivot.width) c.args.pivot.row c.args.pivot.column c.args.i c.args.j c.cell-divisor.result c.neg.result c.cell-old.result c.div-then-j-pivot-2.result c.if-i-pivot.false c.if-j-pivot-2.true c.cell-divisor.ensures c.neg.ensures c.cell-old.ensures c.requires.some c.div-then-j-pivot-2.ensures.fits

pub returns-then-is_zero-clause-value : goal.returns-then-is_zero-clause-value
returns-then-is_zero-clause-value c = across_value (cell_at c.args.cells.now c.args.pivot.width) c.args.pivot.row c.args.pivot.column c.args.i c.args.j c.cell-old.result c.cell-across.result c.if-i-pivot.false c.if-j-pivot-2.false c.cell-across.ensures (c.is_zero.ensures.0 c.if-is_zero.true) c.cell-old.ensures

pub returns-then-is_zero-clause-fits : goal.returns-then-is_zero-clause-fits
returns-then-is_zero-clause-fits c = (
  λ _. across_fits (cell_at c.args.cells.now c.args.pivot.width) c.args.pivot.row c.args.pivot.column c.args.i c.args.j c.cell-across.result c.if-i-pivot.false c.if-j-pivot-2.false c.cell-across.ensures (c.is_zero.ensures.0 c.if-is_zero.true)
      (c.requires.fit c.args.i c.args.j c.requires.row_i c.requires.column_j),
  λ _. refl,
)
