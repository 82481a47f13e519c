use Rattle.std.proofs.Common.{◌≡◌, drop, length}
use Rattle.std.specs.List.{AllByRecursion}
use Rattle.hys_prog.specs.Stops.{first_stop}
use Rattle.hys_prog.specs.Walk.{IsPlaced, found, found_checks}
use Rattle.hys_prog.proofs.along.found.Given as goal

-- what is still to be found from here on is what is to be found from the start
abbrev pub invariant-loop-name : goal.invariant-loop-name
invariant-loop-name l = record {
  placed : AllByRecursion (IsPlaced l.items l.places) (drop l.name-index l.order);
  count : length l.values.items ≡ length l.places;
  value : found l.items l.order l.fn.values.items ≡ found l.items (drop l.name-index l.order) l.values.items;
  stop : first_stop (found_checks l.items l.order l.fn.values.items) ≡ first_stop (found_checks l.items (drop l.name-index l.order) l.values.items);
}
