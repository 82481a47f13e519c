use Rattle.hys_tab.proofs.Slacks.{terms_below, cost_below}
use Rattle.hys_tab.proofs.slack_basis.fill.Goals as goal

pub fill_rows-requires-clause-below : goal.fill_rows-requires-clause-below
fill_rows-requires-clause-below c = rw (c.items-rows.ensures, c.items.ensures) (terms_below c.args.problem.now c.requires.problem)

pub fill_row-requires-clause-below : goal.fill_row-requires-clause-below
fill_row-requires-clause-below c = rw (c.items-2.ensures, c.items.ensures) (cost_below c.args.problem.now c.requires.problem)
