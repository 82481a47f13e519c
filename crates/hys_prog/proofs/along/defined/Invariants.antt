use Rattle.std.proofs.Common.{◌≡◌, ◌++◌, drop}
use Rattle.std.specs.List.{AllByRecursion}
use Rattle.hys_lin.specs.Sums.{at}
use Rattle.hys_prog.specs.Stops.{first_stop, checks_along, numbers_in}
use Rattle.hys_prog.specs.Walk.{IsPlaced}
use Rattle.hys_prog.proofs.along.defined.Given as goal

abbrev pub invariant-loop-name : goal.invariant-loop-name
invariant-loop-name l = record {
  placed : AllByRecursion (IsPlaced l.items l.places) (drop l.name-index l.names);
  value : l.numbers.items ++ numbers_in (at l.values) l.items (drop l.name-index l.names) ≡ numbers_in (at l.values) l.items l.names;
  stop : first_stop (checks_along (at l.values) l.items l.names) ≡ first_stop (checks_along (at l.values) l.items (drop l.name-index l.names));
}
