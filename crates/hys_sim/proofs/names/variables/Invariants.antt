use Rattle.std.proofs.Common.{◌≡◌, ◌≤◌, ◌+◌, drop, length}
use Rattle.std.specs.Prelude.{filter, not}
use Rattle.hys_prog.specs.Steps.{is_parameter}
use Rattle.hys_sim.specs.Tables.{variables}
use Rattle.hys_sim.proofs.names.variables.Given as goal

abbrev pub invariant-loop-name : goal.invariant-loop-name
invariant-loop-name l = record {
  counted : l.count + length (filter (λ k. not (is_parameter k.role)) (drop l.name-index l.fn.program.names)) ≡ variables l.fn.program;
  small : l.count ≤ l.name-index;
}
