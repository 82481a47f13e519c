use Rattle.std.proofs.Common.{◌≡◌}
use Rattle.hys_lin.specs.Ranges.{box_at}
use Rattle.hys_relax.specs.LinearProgram.{linear_program}
use Rattle.hys_simplex.specs.Status.{status_value as status_value_of, values_to}
use Rattle.hys_tab.specs.Table.{tableau_of}
use Rattle.hys_dual.proofs.point.point.Given as goal

abbrev pub invariant-loop-column : goal.invariant-loop-column
invariant-loop-column l = l.values.items ≡ values_to l.column (status_value_of (linear_program l.problem) (box_at l.boxes) (tableau_of l.tableau))
