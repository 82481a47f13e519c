use Rattle.std.proofs.Common.{◌≡◌, ◌+◌, drop}
use Rattle.hys_prog.specs.Programs.{names_weight}
use Rattle.hys_type.proofs.weight.columns.Given as goal

abbrev pub invariant-loop-name : goal.invariant-loop-name
invariant-loop-name l = l.weight + names_weight (drop l.name-index l.names) ≡ names_weight l.names
