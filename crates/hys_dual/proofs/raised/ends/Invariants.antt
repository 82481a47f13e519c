use Rattle.std.proofs.Common.{◌≡◌}
use Rattle.hys_lin.specs.Ranges.{box_at}
use Rattle.hys_relax.specs.LinearProgram.{linear_program}
use Rattle.hys_tab.specs.Table.{tableau_of}
use Rattle.hys_dual.specs.Listed.{listed}
use Rattle.hys_dual.specs.Standing.{end_in}
use Rattle.hys_dual.proofs.raised.ends.Given as goal

abbrev pub invariant-loop-column : goal.invariant-loop-column
invariant-loop-column l = l.ends.items ≡ listed l.column (end_in (linear_program l.problem) (box_at l.boxes) (tableau_of l.tableau))
