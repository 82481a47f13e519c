use Rattle.std.proofs.Common.{◌≡◌, ◌++◌, map, drop}
use Rattle.serde_json.specs.View.{view}
use Rattle.hys_json.specs.Checks.{first_fault}
use Rattle.hys_json.specs.Values.{each_from}
use Rattle.hys_json.proofs.list.read_list.Given as goal

abbrev pub invariant-loop-place : goal.invariant-loop-place
invariant-loop-place g l =
    (first_fault (each_from g.R.Reader.asked g.R.Reader.after 0 l.initial.reader (map view l.values)) ≡ first_fault (each_from g.R.Reader.asked g.R.Reader.after l.place l.reader (map view (drop l.place l.values))))
    × (l.items.items ++ map g.R.Reader.meant (map view (drop l.place l.values)) ≡ map g.R.Reader.meant (map view l.values))
