use Rattle.std.proofs.Common.{rules, ◌∙◌}
use Rattle.hys_frac.proofs.Fracs.{product_back, div_back, div_zero_is}
use Rattle.hys_frac.proofs.SignedOrder.{both_quotients}
use Rattle.hys_frac.proofs.frac.Frac.cmp_quotient.Goals as goal

pub signed_above-left-requires-clause-below : goal.signed_above-left-requires-clause-below
signed_above-left-requires-clause-below c = λ e. c.requires.left ((div_zero_is c.args.a c.args.b c.product-2.result (search rules)
    (product_back _ _ _ _ _ c.product-2.ensures.value (search rules) (search rules) c.den-2.ensures.value c.num-2.ensures.value)).0 e)

pub signed_above-right-requires-clause-below : goal.signed_above-right-requires-clause-below
signed_above-right-requires-clause-below c = λ e. c.requires.right ((div_zero_is c.args.c c.args.d c.product-4.result (search rules)
    (product_back _ _ _ _ _ c.product-4.ensures.value (search rules) (search rules) c.den-4.ensures.value c.num-4.ensures.value)).0 e)

pub returns : goal.returns
returns c =
    both_quotients c.signed_above-left.result.0 c.signed_above-right.result.0 c.signed_above-left.result.1 c.signed_above-right.result.1 _ _ c.cmp_signed.result (search rules) (search rules)
    (c.signed_above-left.ensures.value ∙ div_back c.args.a c.args.b c.product.result c.product-2.result (search rules) (search rules)
    (product_back _ _ _ _ _ c.product.ensures.value (search rules) (search rules) c.num.ensures.value c.den.ensures.value)
    (product_back _ _ _ _ _ c.product-2.ensures.value (search rules) (search rules) c.den-2.ensures.value c.num-2.ensures.value))
    (c.signed_above-right.ensures.value ∙ div_back c.args.c c.args.d c.product-3.result c.product-4.result (search rules) (search rules)
    (product_back _ _ _ _ _ c.product-3.ensures.value (search rules) (search rules) c.num-3.ensures.value c.den-3.ensures.value)
    (product_back _ _ _ _ _ c.product-4.ensures.value (search rules) (search rules) c.den-4.ensures.value c.num-4.ensures.value))
    c.cmp_signed.ensures
