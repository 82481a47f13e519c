use Rattle.std.proofs.Common.{◌≡◌, map, take}
use Rattle.hys_number.specs.Ops.{neg}
use Rattle.hys_type.proofs.node.negated.Given as goal

abbrev pub invariant-loop-factor : goal.invariant-loop-factor
invariant-loop-factor l = l.factors.items ≡ map neg (take l.factor-index l.factor-items)
