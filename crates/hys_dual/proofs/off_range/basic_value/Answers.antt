use Rattle.std.proofs.Common.{◌∙◌, ap, sym, arith, length, slice_index_or}
use Rattle.hys_lin.specs.Ranges.{box_at}
use Rattle.hys_relax.specs.LinearProgram.{linear_program}
use Rattle.hys_tab.specs.Table.{tableau_of}
use Rattle.hys_dual.specs.Standing.{end_in}
use Rattle.hys_dual.proofs.Listing.{listed_long}
use Rattle.hys_dual.proofs.Standings.{end_value_read}
use Rattle.hys_dual.proofs.Values.{value_begins, value_next, value_lost}
use Rattle.hys_dual.proofs.off_range.basic_value.Goals as goal

pub loop-column-init : goal.loop-column-init
loop-column-init c = value_begins (linear_program c.args.problem.now) (box_at c.args.boxes.now) (tableau_of c.args.tableau.now) c.args.row c.cell-sum.result
    (c.cell-sum.ensures ∙ ap ((tableau_of c.args.tableau.now).cell c.args.row) c.columns.ensures.value)

pub bounds-ends-column : goal.bounds-ends-column
bounds-ends-column c = omega (arith, c.loop-column-test.true, c.columns-column-end.ensures.value, ap length c.requires.ends ∙ listed_long (length c.args.tableau.now.outsides) (end_in (linear_program c.args.problem.now) (box_at c.args.boxes.now) (tableau_of c.args.tableau.now)))

pub bounds-ends-column-in-loop-column : goal.bounds-ends-column-in-loop-column
bounds-ends-column-in-loop-column c = bounds-ends-column c

pub returns-in-Err-clause-unfit : goal.returns-in-Err-clause-unfit
returns-in-Err-clause-unfit c = λ _. value_lost (linear_program c.args.problem.now) (box_at c.args.boxes.now) (tableau_of c.args.tableau.now) c.args.row c.loop-column.column c.loop-column.sum c.cell.result
    (slice_index_or c.args.ends.now c.loop-column.column c.index-ends-column.result).value c.in-Err.field-0 c.loop-column.invariant c.cell.ensures
    (end_value_read (linear_program c.args.problem.now) (box_at c.args.boxes.now) (tableau_of c.args.tableau.now) c.args.ends.now c.loop-column.column c.index-ends-column.result c.requires.ends (omega (arith, c.loop-column-test.true, c.columns-column-end.ensures.value)))
    (omega (arith, c.loop-column-test.true, c.columns-column-end.ensures.value)) (sym c.in-Err.ensures.lost)

pub loop-column-preserved : goal.loop-column-preserved
loop-column-preserved c = value_next (linear_program c.args.problem.now) (box_at c.args.boxes.now) (tableau_of c.args.tableau.now) c.args.row c.loop-column.column c.loop-column.sum c.in-Ok.less c.cell.result
    (slice_index_or c.args.ends.now c.loop-column.column c.index-ends-column.result).value c.loop-column.invariant c.in-Ok.ensures.value c.cell.ensures
    (end_value_read (linear_program c.args.problem.now) (box_at c.args.boxes.now) (tableau_of c.args.tableau.now) c.args.ends.now c.loop-column.column c.index-ends-column.result c.requires.ends (omega (arith, c.loop-column-test.true, c.columns-column-end.ensures.value)))
