use Rattle.hys_relax.specs.LinearProgram.{linear_program}
use Rattle.hys_tab.specs.Table.{tableau_of}
use Rattle.hys_dual.proofs.Raising.{AreZeroBelow}
use Rattle.hys_dual.proofs.raised.is_above.Given as goal

abbrev pub invariant-loop-place : goal.invariant-loop-place
invariant-loop-place l = AreZeroBelow (linear_program l.problem) (tableau_of l.tableau) l.column l.place
