use Rattle.std.proofs.Common.{◌≡◌, ◌++◌, drop}
use Rattle.hys_sim.specs.Written.{after_commas, numbers_text}
use Rattle.hys_sim.proofs.writing.write_values.Given as goal

abbrev pub invariant-loop-value : goal.invariant-loop-value
invariant-loop-value l = l.out.items ++ after_commas (numbers_text (drop l.value-index l.values)) ≡ l.initial.out.items ++ after_commas (numbers_text l.values)
