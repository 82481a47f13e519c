use Rattle.std.proofs.Common.{◌∙◌, refl}
use Rattle.hys_lin.specs.Ranges.{box_at}
use Rattle.hys_tab.specs.Table.{tableau_of}
use Rattle.hys_dual.proofs.Finishing.{cost_lawful, least_unfit, point_long, least_here, same_fitting}
use Rattle.hys_dual.proofs.choice.least.Goals as goal

pub sum_fits-requires-clause-lawful : goal.sum_fits-requires-clause-lawful
sum_fits-requires-clause-lawful c = cost_lawful c.args.problem.now (box_at c.args.boxes.now) (tableau_of c.args.tableau.now) c.items-2.result.now c.requires.problem c.requires.reached (c.items-2.ensures ∙ c.in_ok-multipliers.ensures.value)

pub returns-then-not-branch : goal.returns-then-not-branch
returns-then-not-branch c = least_unfit c.args.problem.now (box_at c.args.boxes.now) (tableau_of c.args.tableau.now) c.in_ok-multipliers.multipliers.pairs c.in_ok-sum_fits.field-0 c.requires.reached c.requires.inside
    c.in_ok-multipliers.ensures.value (same_fitting c.args.problem.now (box_at c.args.boxes.now) c.items.result.now c.in_ok-multipliers.multipliers.pairs c.items-2.result.now c.in_ok-sum_fits.field-0 c.items.ensures c.items-2.ensures c.in_ok-sum_fits.ensures) c.if-not-branch.true

pub lost_row-requires-clause-long : goal.lost_row-requires-clause-long
lost_row-requires-clause-long c = point_long c.args.problem.now (box_at c.args.boxes.now) (tableau_of c.args.tableau.now) c.in_ok-row.field-0 c.in-At.point c.in_ok-row.ensures c.in-At.is

pub returns-in-None : goal.returns-in-None
returns-in-None c = least_here c.args.problem.now (box_at c.args.boxes.now) (tableau_of c.args.tableau.now) c.in_ok-multipliers.multipliers.pairs c.in_ok-sum_fits.field-0 c.in_ok-row.field-0 c.in-At.point c.requires.reached c.requires.inside
    c.in_ok-multipliers.ensures.value (same_fitting c.args.problem.now (box_at c.args.boxes.now) c.items.result.now c.in_ok-multipliers.multipliers.pairs c.items-2.result.now c.in_ok-sum_fits.field-0 c.items.ensures c.items-2.ensures c.in_ok-sum_fits.ensures) c.if-not-branch.false c.in_ok-row.ensures c.in-At.is (c.in-None.ensures.none refl)
