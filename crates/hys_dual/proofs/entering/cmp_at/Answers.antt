use Rattle.hys_relax.specs.LinearProgram.{linear_program}
use Rattle.hys_tab.specs.Table.{tableau_of}
use Rattle.hys_dual.proofs.Comparing.{ratios_up, ratios_down}
use Rattle.hys_dual.proofs.entering.cmp_at.Goals as goal

pub returns-then-under : goal.returns-then-under
returns-then-under c = ratios_up (linear_program c.args.problem.now) (tableau_of c.args.tableau.now) c.args.row c.args.first c.args.second c.args.place c.cmp_quotient.result c.args.under
    c.raised_cell-over_first.result c.cell-under_first.result c.raised_cell-over_second.result c.cell-under_second.result c.if-under.true c.raised_cell-over_first.ensures c.raised_cell-over_second.ensures c.cell-under_first.ensures c.cell-under_second.ensures
    c.cmp_quotient.ensures

pub returns : goal.returns
returns c = ratios_down (linear_program c.args.problem.now) (tableau_of c.args.tableau.now) c.args.row c.args.first c.args.second c.args.place c.cmp_quotient-2.result c.args.under
    c.raised_cell-over_first.result c.cell-under_first.result c.raised_cell-over_second.result c.cell-under_second.result c.if-under.false c.raised_cell-over_first.ensures c.raised_cell-over_second.ensures c.cell-under_first.ensures c.cell-under_second.ensures
    c.cmp_quotient-2.ensures
