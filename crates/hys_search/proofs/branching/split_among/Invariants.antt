use Rattle.std.proofs.Common.{drop}
use Rattle.hys_search.proofs.branching.split_among.Given as goal
use Rattle.hys_search.specs.Branching.{EachBit, EachUnit}

abbrev pub invariant-loop-column : goal.invariant-loop-column
invariant-loop-column l = (EachBit (drop l.column-index l.columns) l.point → EachBit l.columns l.point) × EachUnit (drop l.column-index l.columns) l.point
