use Rattle.std.proofs.Common.{◌≡◌, ◌≤◌, ◌++◌, drop}
use Rattle.hys_prog.specs.Walk.{started_from, started}
use Rattle.hys_prog.proofs.given.start.Given as goal

abbrev pub invariant-loop-name : goal.invariant-loop-name
invariant-loop-name l = record {
  values : l.values.items ++ started_from (drop l.name-index l.names) l.states l.inputs l.state l.input ≡ started l.names l.state l.input;
  states : l.states ≤ l.name-index;
  inputs : l.inputs ≤ l.name-index;
}
