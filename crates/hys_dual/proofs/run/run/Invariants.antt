use Rattle.std.proofs.Common.{◌+◌, ◌-◌, length}
use Rattle.hys_relax.specs.LinearProgram.{linear_program}
use Rattle.hys_simplex.specs.Path.{status_count}
use Rattle.hys_dual.specs.Relaxing.{IsWarmAt, GoesOn}
use Rattle.hys_dual.proofs.run.run.Given as goal

abbrev pub invariant-loop-finish : goal.invariant-loop-finish
invariant-loop-finish l = record {
  path : GoesOn l.problem l.fixings l.fn.path.items l.path.items;
  warm : IsWarmAt l.problem l.fixings l.tableau l.path.items;
}

abbrev pub decreases-loop-finish : goal.decreases-loop-finish
decreases-loop-finish l = status_count (linear_program l.problem) + length l.fn.path.items - length l.path.items
