use Rattle.std.proofs.Common.{◌≡◌}
use Rattle.hys_lin.specs.Ranges.{box_at}
use Rattle.hys_relax.specs.LinearProgram.{linear_program}
use Rattle.hys_tab.specs.Table.{tableau_of}
use Rattle.hys_dual.proofs.Values.{part_value}
use Rattle.hys_dual.proofs.off_range.basic_value.Given as goal

abbrev pub invariant-loop-column : goal.invariant-loop-column
invariant-loop-column l = l.sum ≡ part_value (linear_program l.problem) (box_at l.boxes) (tableau_of l.tableau) l.row l.column
