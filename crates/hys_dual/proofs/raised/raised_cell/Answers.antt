use Rattle.hys_relax.specs.LinearProgram.{linear_program}
use Rattle.hys_tab.specs.Table.{tableau_of}
use Rattle.hys_dual.proofs.Raising.{at_cost, at_basic, at_outside}
use Rattle.hys_dual.proofs.raised.raised_cell.Goals as goal

pub returns-then-place-eq0 : goal.returns-then-place-eq0
returns-then-place-eq0 c = at_cost (linear_program c.args.problem.now) (tableau_of c.args.tableau.now) c.args.column c.args.place c.rows.result c.cell.result c.requires.of c.requires.column c.if-place-eq0.true c.rows.ensures.value c.cell.ensures

pub returns-in-Basic : goal.returns-in-Basic
returns-in-Basic c = at_basic (linear_program c.args.problem.now) (tableau_of c.args.tableau.now) c.args.column c.in-Basic.row c.args.place c.args.stands.now c.cell-in-Basic.result c.requires.of c.requires.stands c.requires.column
    c.if-place-eq0.false c.requires.place c.in-Basic.is c.cell-in-Basic.ensures

pub returns-in-Outside : goal.returns-in-Outside
returns-in-Outside c = at_outside (linear_program c.args.problem.now) (tableau_of c.args.tableau.now) c.args.column c.in-Outside.other c.args.place c.args.stands.now c.own.result c.requires.of c.requires.stands c.requires.column
    c.if-place-eq0.false c.requires.place c.in-Outside.is c.own.ensures
