use Rattle.std.proofs.Common.{◌≡◌, drop}
use Rattle.hys_search.proofs.columns.is_fixed.Given as goal
use Rattle.hys_relax.specs.Node.{is_fixed}

abbrev pub invariant-loop-fixing : goal.invariant-loop-fixing
invariant-loop-fixing l = is_fixed (drop l.fixing-index l.fixings) l.column ≡ is_fixed l.fixings l.column
