use Rattle.std.proofs.Common.{◌≡◌, ◌++◌, drop}
use Rattle.hys_order.specs.Lists.{others}
use Rattle.hys_order.proofs.auxiliaries.others_of.Given as goal

abbrev pub invariant-loop-name : goal.invariant-loop-name
invariant-loop-name l = l.others.items ++ others (drop l.name-index l.names) ≡ others l.names
