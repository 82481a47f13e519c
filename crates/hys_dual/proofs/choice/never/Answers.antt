use Rattle.std.proofs.Common.{◌∙◌, refl, []}
use Rattle.hys_lin.specs.Ranges.{box_at}
use Rattle.hys_tab.specs.Table.{tableau_of}
use Rattle.hys_dual.specs.Ranging.{side_of}
use Rattle.hys_dual.proofs.Finishing.{never_lawful, never_unfit, never_here, costless_fitting}
use Rattle.hys_dual.proofs.choice.never.Goals as goal

pub sum_fits-requires-clause-lawful : goal.sum_fits-requires-clause-lawful
sum_fits-requires-clause-lawful c = never_lawful c.args.problem.now (box_at c.args.boxes.now) (tableau_of c.args.tableau.now) c.args.off.row (side_of c.args.off.under) c.args.off.near c.items.result.now c.requires.ordered c.requires.reached c.requires.blocked (c.items.ensures ∙ c.in_ok-multipliers.ensures)

pub returns-then-not-branch : goal.returns-then-not-branch
returns-then-not-branch c = never_unfit c.args.problem.now (box_at c.args.boxes.now) (tableau_of c.args.tableau.now) c.args.off.row (side_of c.args.off.under) c.args.off.near c.in_ok-multipliers.multipliers.pairs c.requires.ordered c.requires.reached c.requires.blocked
    c.in_ok-multipliers.ensures c.in_ok-sum_fits.field-0 (costless_fitting c.args.problem.now (box_at c.args.boxes.now) [] c.whole.result c.in_ok-multipliers.multipliers.pairs c.items.result.now c.in_ok-sum_fits.field-0 refl c.whole.ensures c.items.ensures c.in_ok-sum_fits.ensures) c.if-not-branch.true

pub returns : goal.returns
returns c = never_here c.args.problem.now (box_at c.args.boxes.now) (tableau_of c.args.tableau.now) c.args.off.row (side_of c.args.off.under) c.args.off.near c.in_ok-multipliers.multipliers.pairs c.in_ok-sum_fits.field-0 c.requires.blocked
    c.in_ok-multipliers.ensures (costless_fitting c.args.problem.now (box_at c.args.boxes.now) [] c.whole.result c.in_ok-multipliers.multipliers.pairs c.items.result.now c.in_ok-sum_fits.field-0 refl c.whole.ensures c.items.ensures c.in_ok-sum_fits.ensures) c.if-not-branch.false
