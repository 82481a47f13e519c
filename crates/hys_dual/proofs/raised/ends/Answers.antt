use Rattle.std.proofs.Common.{◌∙◌}
use Rattle.hys_lin.specs.Ranges.{box_at}
use Rattle.hys_relax.specs.LinearProgram.{linear_program}
use Rattle.hys_tab.specs.Table.{tableau_of}
use Rattle.hys_dual.specs.Standing.{end_in}
use Rattle.hys_dual.proofs.Listing.{listed_next}
use Rattle.hys_dual.proofs.Standings.{end_made}
use Rattle.hys_dual.proofs.raised.ends.Goals as goal

pub loop-column-preserved : goal.loop-column-preserved
loop-column-preserved c = c.in_ok-push.ensures.items
    ∙ listed_next c.loop-column.column (end_in (linear_program c.args.problem.now) (box_at c.args.boxes.now) (tableau_of c.args.tableau.now)) c.loop-column.ends.items (record { above = c.is_above-above.result; value = c.end_of-value.result }) c.loop-column.invariant
    (end_made (linear_program c.args.problem.now) (box_at c.args.boxes.now) (tableau_of c.args.tableau.now) c.loop-column.column c.outside_number-variable.result c.is_above-above.result c.end_of-value.result c.is_above-above.ensures
    c.outside_number-variable.ensures c.end_of-value.ensures)
