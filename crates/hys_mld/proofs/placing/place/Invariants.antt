use Rattle.std.proofs.Common.{◌≡◌, ◌++◌, drop}
use Rattle.hys_mld.specs.Placing.{after_names, placed_from}
use Rattle.hys_mld.proofs.placing.place.Given as goal

abbrev pub invariant-loop-name : goal.invariant-loop-name
invariant-loop-name l = record {
  free : after_names l.free (drop l.name-index l.names) ≡ after_names l.fn.start l.names;
  columns : l.columns.items ++ placed_from l.free (drop l.name-index l.names) ≡ placed_from l.fn.start l.names;
}
