use Rattle.std.proofs.Common.{◌≡◌, ◌++◌, drop}
use Rattle.hys_order.specs.Lists.{links_from}
use Rattle.hys_order.proofs.links.links.Given as goal

-- with those of the names that are left the lists are those of all
abbrev pub invariant-loop-n : goal.invariant-loop-n
invariant-loop-n l = l.links.items ++ links_from l.program.items l.places.items l.n (drop l.n l.program.names) ≡ links_from l.program.items l.places.items 0 l.program.names
