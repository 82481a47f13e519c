use Rattle.std.proofs.Common.{◌≡◌, drop}
use Rattle.hys_mld.specs.Placing.{after_names, counts}
use Rattle.hys_mld.proofs.placing.count.Given as goal

abbrev pub invariant-loop-name : goal.invariant-loop-name
invariant-loop-name l = after_names l.free (drop l.name-index l.names) ≡ counts l.names
