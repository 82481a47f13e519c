use Rattle.std.proofs.Common.{◌≡◌}
use Rattle.hys_relax.specs.LinearProgram.{linear_program}
use Rattle.hys_simplex.specs.Tableau.{row_multiplier}
use Rattle.hys_simplex.specs.Unfit.{pairs_to}
use Rattle.hys_tab.specs.Table.{tableau_of}
use Rattle.hys_dual.specs.Ranging.{side_of}
use Rattle.hys_dual.proofs.multipliers.row_multipliers.Given as goal

abbrev pub invariant-loop-slack : goal.invariant-loop-slack
invariant-loop-slack l = l.pairs.items ≡ pairs_to l.slack (row_multiplier (linear_program l.problem) (tableau_of l.tableau) l.row (side_of l.under))
