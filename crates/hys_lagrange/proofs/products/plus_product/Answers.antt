use Rattle.std.proofs.Common.{sym}
use Rattle.hys_number.specs.Ops.{◌*ₙ◌}
use Rattle.hys_relax.proofs.Zeros.{zero_added}
use Rattle.hys_lagrange.proofs.Summed.{product_zero, plus_none}
use Rattle.hys_lagrange.proofs.products.plus_product.Goals as goal

pub returns-then-is_zero-clause-value : goal.returns-then-is_zero-clause-value
returns-then-is_zero-clause-value c = plus_none c.kept.result c.args.sum (c.args.factor *ₙ c.args.number) c.kept.ensures.same (product_zero c.args.factor c.args.number (c.is_zero.ensures.0 c.if-is_zero.true))

pub returns-then-is_zero-clause-lost : goal.returns-then-is_zero-clause-lost
returns-then-is_zero-clause-lost c = sym (zero_added c.args.factor c.args.number c.args.sum (product_zero c.args.factor c.args.number (c.is_zero.ensures.0 c.if-is_zero.true)) c.kept.ensures.fits)
