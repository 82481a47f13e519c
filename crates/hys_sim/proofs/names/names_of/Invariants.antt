use Rattle.std.proofs.Common.{◌≡◌, ◌++◌, drop, map}
use Rattle.std.specs.Prelude.{filter}
use Rattle.hys_prog.specs.Walk.{is_role}
use Rattle.hys_sim.proofs.names.names_of.Given as goal

abbrev pub invariant-loop-name : goal.invariant-loop-name
invariant-loop-name l = map (λ k. k.now) l.names.items ++ filter (λ k. is_role l.part k.role) (drop l.name-index l.fn.program.names) ≡ filter (λ k. is_role l.part k.role) l.fn.program.names
