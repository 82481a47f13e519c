use Rattle.std.proofs.Common.{◌≡◌, sym}
use Rattle.hys_number.specs.Ops.{◌*ₙ◌, whole}
use Rattle.hys_relax.proofs.Zeros.{zero_subtracted}
use Rattle.hys_lagrange.proofs.Summed.{product_zero, zero_product, less_none}
use Rattle.hys_lagrange.proofs.products.less_product.Goals.{then-is_zero-via-then-is_zero, then-is_zero-via-else-is_zero+then-is_zero-2}
use Rattle.hys_lagrange.proofs.products.less_product.Goals as goal

none : (c : goal.After-kept) → c.args.factor *ₙ c.args.number ≡ whole 0
none c = elim c.then-is_zero.branch [
  | then-is_zero-via-then-is_zero w ↦ zero_product c.args.factor c.args.number (c.is_zero.ensures.0 w.if-is_zero.true)
  | then-is_zero-via-else-is_zero+then-is_zero-2 w ↦ product_zero c.args.factor c.args.number (w.is_zero-else-is_zero.ensures.0 w.if-is_zero-2.true)
]

pub returns-then-is_zero-clause-value : goal.returns-then-is_zero-clause-value
returns-then-is_zero-clause-value c = less_none c.kept.result c.args.sum (c.args.factor *ₙ c.args.number) c.kept.ensures.same (none c)

pub returns-then-is_zero-clause-lost : goal.returns-then-is_zero-clause-lost
returns-then-is_zero-clause-lost c = sym (zero_subtracted c.args.factor c.args.number c.args.sum (none c) c.kept.ensures.fits)
