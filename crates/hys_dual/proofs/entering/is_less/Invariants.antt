use Rattle.hys_relax.specs.LinearProgram.{linear_program}
use Rattle.hys_tab.specs.Table.{tableau_of}
use Rattle.hys_dual.specs.Ranging.{side_of}
use Rattle.hys_dual.proofs.Comparing.{AreAlikeBelow}
use Rattle.hys_dual.proofs.entering.is_less.Given as goal

abbrev pub invariant-loop-place : goal.invariant-loop-place
invariant-loop-place l = AreAlikeBelow (linear_program l.problem) (tableau_of l.tableau) l.row (side_of l.under) l.first l.second l.place
