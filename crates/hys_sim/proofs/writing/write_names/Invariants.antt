use Rattle.std.proofs.Common.{◌≡◌, ◌++◌, drop, map}
use Rattle.hys_prog.specs.Programs.{text_of}
use Rattle.hys_sim.specs.Written.{after_commas}
use Rattle.hys_sim.proofs.writing.write_names.Given as goal

abbrev pub invariant-loop-name : goal.invariant-loop-name
invariant-loop-name l = l.out.items ++ after_commas (map text_of (map (λ k. k.now) (drop l.name-index l.names))) ≡ l.initial.out.items ++ after_commas (map text_of (map (λ k. k.now) l.names))
