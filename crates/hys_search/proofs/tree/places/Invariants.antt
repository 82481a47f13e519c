use Rattle.std.proofs.Common.{◌≡◌, map, take}
use Rattle.hys_search.proofs.tree.places.Given as goal
use Rattle.hys_search.specs.Places.{place_at}

abbrev pub invariant-loop-i : goal.invariant-loop-i
invariant-loop-i l = l.places.items ≡ map (place_at l.table.nodes.items l.table.certificates.items) (take l.i l.order.items)
