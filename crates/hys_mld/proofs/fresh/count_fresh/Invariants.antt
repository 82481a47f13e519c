use Rattle.std.proofs.Common.{◌≡◌, ◌+◌, drop}
use Rattle.hys_mld.specs.Fresh.{fresh_of_items}
use Rattle.hys_mld.proofs.fresh.count_fresh.Given as goal

abbrev pub invariant-loop-item : goal.invariant-loop-item
invariant-loop-item l = l.count + fresh_of_items l.columns (drop l.item-index l.items) ≡ fresh_of_items l.columns l.items
