use Rattle.std.proofs.Common.{◌≡◌, ◌∙◌, ap, arith, ◌++◌, length}
use Rattle.hys_relax.specs.LinearProgram.{linear_program}
use Rattle.hys_simplex.specs.Tableau.{row_multiplier}
use Rattle.hys_simplex.specs.Unfit.{pairs_to}
use Rattle.hys_tab.specs.Cells.{some_pair}
use Rattle.hys_tab.specs.Table.{tableau_of}
use Rattle.hys_tab.proofs.Multiplied.{pairs_next}
use Rattle.hys_dual.specs.Ranging.{side_of}
use Rattle.hys_dual.proofs.multipliers.row_multipliers.Goals as goal

pub loop-slack-preserved : goal.loop-slack-preserved
loop-slack-preserved c = c.in_ok-push_some.ensures ∙ ap (λ xs. xs ++ some_pair c.loop-slack.slack c.row_multiplier-number.result) c.loop-slack.invariant
    ∙ pairs_next c.loop-slack.slack (row_multiplier (linear_program c.args.problem.now) (tableau_of c.args.tableau.now) c.args.row (side_of c.args.under)) c.row_multiplier-number.result c.row_multiplier-number.ensures

pub returns : goal.returns
returns c =
    let all : c.loop-slack.slack ≡ length c.args.problem.now.rows = omega (arith, c.loop-slack-test.false, c.loop-slack.auto.slack-end, c.rows-slack-end.ensures.value, c.requires.of.tall) in
    c.of.ensures ∙ c.loop-slack.invariant ∙ ap (λ n. pairs_to n (row_multiplier (linear_program c.args.problem.now) (tableau_of c.args.tableau.now) c.args.row (side_of c.args.under))) all
