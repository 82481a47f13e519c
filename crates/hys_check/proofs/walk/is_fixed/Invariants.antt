use Rattle.std.proofs.Common.{◌≡◌, drop}
use Rattle.hys_relax.specs.Node.{is_fixed}
use Rattle.hys_check.proofs.walk.is_fixed.Given as goal

abbrev pub invariant-loop-k : goal.invariant-loop-k
invariant-loop-k l = is_fixed l.path l.column ≡ is_fixed (drop l.k l.path) l.column
