use Rattle.std.proofs.Common.{arith}
use Rattle.hys_relax.specs.LinearProgram.{linear_program}
use Rattle.hys_tab.specs.Table.{tableau_of}
use Rattle.hys_dual.proofs.Raising.{above_at, below_at, null_at, zero_next}
use Rattle.hys_dual.proofs.raised.is_above.Goals as goal

pub returns-then-is_positive : goal.returns-then-is_positive
returns-then-is_positive c = above_at (linear_program c.args.problem.now) (tableau_of c.args.tableau.now) c.args.column c.loop-place.place c.raised_cell-cell.result
    (omega (arith, c.loop-place-test.true, c.columns-place-end.ensures.value, c.requires.of.wide)) c.loop-place.invariant c.raised_cell-cell.ensures (c.is_positive.ensures.0 c.if-is_positive.true)

pub returns-then-is_negative : goal.returns-then-is_negative
returns-then-is_negative c = below_at (linear_program c.args.problem.now) (tableau_of c.args.tableau.now) c.args.column c.loop-place.place c.raised_cell-cell.result
    (omega (arith, c.loop-place-test.true, c.columns-place-end.ensures.value, c.requires.of.wide)) c.loop-place.invariant c.raised_cell-cell.ensures (c.is_negative.ensures.0 c.if-is_negative.true)

pub loop-place-preserved : goal.loop-place-preserved
loop-place-preserved c = zero_next (linear_program c.args.problem.now) (tableau_of c.args.tableau.now) c.args.column c.loop-place.place c.raised_cell-cell.result c.is_positive.result c.is_negative.result c.raised_cell-cell.ensures
    c.is_positive.ensures c.if-is_positive.false c.is_negative.ensures c.if-is_negative.false c.loop-place.invariant

pub returns : goal.returns
returns c = null_at (linear_program c.args.problem.now) (tableau_of c.args.tableau.now) c.args.column c.loop-place.place (omega (arith, c.loop-place-test.false, c.columns-place-end.ensures.value, c.requires.of.wide)) c.loop-place.invariant
