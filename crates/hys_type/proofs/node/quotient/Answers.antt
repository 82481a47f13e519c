use Rattle.std.proofs.Common.{◌≢◌, sym, ◌∙◌, subst}
use Rattle.std.specs.List.{AllByRecursion}
use Rattle.hys_number.specs.Number.{Number}
use Rattle.hys_number.specs.Ops.{whole}
use Rattle.hys_type.specs.declared.dense.Dense.{Dense}
use Rattle.hys_type.proofs.Operands.{not_zero, each_divisor}
use Rattle.hys_type.proofs.node.quotient.Goals as goal

pub folded-requires-clause-divisors : goal.folded-requires-clause-divisors
folded-requires-clause-divisors c = λ h.
    subst (λ (x : Dense). AllByRecursion (λ (b : Number). b ≢ whole 0) x.factors) (sym c.in_ok-right.ensures)
    (each_divisor c.args.right.now.constant c.args.right.now.factors (not_zero c.args.right.now.constant (sym c.is_zero.ensures ∙ c.if-is_zero.false)))
