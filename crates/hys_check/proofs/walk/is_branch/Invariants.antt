use Rattle.std.proofs.Common.{◌≡◌, drop}
use Rattle.std.specs.Prelude.{nat_eq}
use Rattle.std.specs.List.{list_any}
use Rattle.hys_relax.specs.Node.{is_branch}
use Rattle.hys_check.proofs.walk.is_branch.Given as goal

abbrev pub invariant-loop-k : goal.invariant-loop-k
invariant-loop-k l = is_branch l.problem l.column ≡ list_any (nat_eq l.column) (drop l.k l.branch)
