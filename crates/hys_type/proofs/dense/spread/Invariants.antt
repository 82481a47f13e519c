use Rattle.std.proofs.Common.{◌≡◌, map, take}
use Rattle.hys_number.specs.Number.{Number}
use Rattle.hys_type.proofs.dense.spread.Given as goal

abbrev pub invariant-loop : goal.invariant-loop
invariant-loop l = l.factors.items ≡ map (λ (a : Number). l.form.constant) (take l.index l.items)
