use Rattle.std.proofs.Common.{drop}
use Rattle.hys_search.proofs.branching.dearest.Given as goal
use Rattle.hys_search.specs.Branching.{EachUnit, IsSplitColumn}

abbrev pub invariant-loop-column : goal.invariant-loop-column
invariant-loop-column l = IsSplitColumn l.columns l.point l.best × EachUnit (drop l.column-index l.columns) l.point
