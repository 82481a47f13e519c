use Rattle.std.proofs.Common.{rules}
use Rattle.hys_frac.proofs.Fracs.{product_back, cmp_back}
use Rattle.hys_frac.proofs.frac.Frac.cmp.Goals as goal

pub returns : goal.returns
returns c = cmp_back c.args.self c.args.other c.product.result c.product-2.result c.cmp.result (search rules) (search rules)
    (product_back _ _ _ _ _ c.product.ensures.value (search rules) (search rules) c.num.ensures.value c.den.ensures.value)
    (product_back _ _ _ _ _ c.product-2.ensures.value (search rules) (search rules) c.num-2.ensures.value c.den-2.ensures.value)
    c.cmp.ensures
