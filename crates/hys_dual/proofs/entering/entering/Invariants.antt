use Rattle.hys_lin.specs.Ranges.{box_at}
use Rattle.hys_relax.specs.LinearProgram.{linear_program}
use Rattle.hys_tab.specs.Table.{tableau_of}
use Rattle.hys_dual.specs.Ranging.{side_of}
use Rattle.hys_dual.specs.Enter.{IsBestBelow}
use Rattle.hys_dual.proofs.entering.entering.Given as goal

abbrev pub invariant-loop-column : goal.invariant-loop-column
invariant-loop-column l = IsBestBelow (linear_program l.problem) (box_at l.boxes) (tableau_of l.tableau) l.row (side_of l.under) l.column l.best
