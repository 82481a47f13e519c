use Rattle.hys_relax.specs.LinearProgram.{linear_program}
use Rattle.hys_tab.specs.Table.{tableau_of}
use Rattle.hys_dual.proofs.Multiplying.{own_row, own_column}
use Rattle.hys_dual.proofs.multipliers.row_multiplier.Goals as goal

pub returns-in-Basic : goal.returns-in-Basic
returns-in-Basic c = own_row (linear_program c.args.problem.now) (tableau_of c.args.tableau.now) c.args.stands.now c.columns.result c.args.slack c.args.row c.in-Basic.other c.args.under c.sided.result c.indicator.result
    c.requires.of c.requires.stands c.columns.ensures.value c.requires.slack c.requires.row c.in-Basic.is c.indicator.ensures c.sided.ensures

pub returns-in-Outside : goal.returns-in-Outside
returns-in-Outside c = own_column (linear_program c.args.problem.now) (tableau_of c.args.tableau.now) c.args.stands.now c.columns.result c.args.slack c.args.row c.in-Outside.column c.args.under c.sided-in-Outside.result c.cell.result
    c.requires.of c.requires.stands c.columns.ensures.value c.requires.slack c.requires.row c.in-Outside.is c.cell.ensures c.sided-in-Outside.ensures
