use Rattle.std.proofs.Common.{◌∙◌, ap, arith, length, slice_index_or}
use Rattle.hys_lin.specs.Ranges.{box_at}
use Rattle.hys_relax.specs.LinearProgram.{linear_program}
use Rattle.hys_tab.specs.Table.{tableau_of}
use Rattle.hys_dual.specs.Standing.{end_in}
use Rattle.hys_dual.proofs.Listing.{listed_long}
use Rattle.hys_dual.proofs.Comparing.{end_above, enters_where, enters_not}
use Rattle.hys_dual.proofs.entering.may_enter.Goals as goal

pub bounds-ends-column : goal.bounds-ends-column
bounds-ends-column c = omega (arith, c.requires.column, ap length c.requires.ends ∙ listed_long (length c.args.tableau.now.outsides) (end_in (linear_program c.args.problem.now) (box_at c.args.boxes.now) (tableau_of c.args.tableau.now)))

pub bounds-ends-column-2 : goal.bounds-ends-column-2
bounds-ends-column-2 c = bounds-ends-column c

pub returns-then-is_toward : goal.returns-then-is_toward
returns-then-is_toward c = enters_where (linear_program c.args.problem.now) (box_at c.args.boxes.now) (tableau_of c.args.tableau.now) c.args.row c.args.column c.outside_number.result c.args.under
    (slice_index_or c.args.ends.now c.args.column c.index-ends-column.result).above c.is_toward.result c.is_movable.result c.cell-cell.result
    (end_above (linear_program c.args.problem.now) (box_at c.args.boxes.now) (tableau_of c.args.tableau.now) c.args.ends.now c.args.column c.index-ends-column.result c.requires.ends c.requires.column)
    c.cell-cell.ensures c.outside_number.ensures c.is_toward.ensures c.if-is_toward.true c.is_movable.ensures

pub returns-else-is_toward : goal.returns-else-is_toward
returns-else-is_toward c = enters_not (linear_program c.args.problem.now) (box_at c.args.boxes.now) (tableau_of c.args.tableau.now) c.args.row c.args.column c.args.under
    (slice_index_or c.args.ends.now c.args.column c.index-ends-column.result).above c.is_toward.result c.cell-cell.result
    (end_above (linear_program c.args.problem.now) (box_at c.args.boxes.now) (tableau_of c.args.tableau.now) c.args.ends.now c.args.column c.index-ends-column.result c.requires.ends c.requires.column)
    c.cell-cell.ensures c.is_toward.ensures c.if-is_toward.false
