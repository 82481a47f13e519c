use Rattle.hys_lin.specs.Ranges.{box_at}
use Rattle.hys_relax.specs.LinearProgram.{linear_program}
use Rattle.hys_tab.specs.Table.{tableau_of}
use Rattle.hys_dual.proofs.Values.{AreInsideBelow}
use Rattle.hys_dual.proofs.off_range.first_off.Given as goal

abbrev pub invariant-loop-row : goal.invariant-loop-row
invariant-loop-row l = AreInsideBelow (linear_program l.problem) (box_at l.boxes) (tableau_of l.tableau) l.row
