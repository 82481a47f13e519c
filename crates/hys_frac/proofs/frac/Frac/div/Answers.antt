use Rattle.std.proofs.Common.{rules, ◌≡◌, pos, ◌*ℤ◌, to_z, of_z}
use mir.Syntax.{w128}
use Rattle.hys_number.specs.Ops.{◌/ₙ◌, int}
use Rattle.hys_frac.proofs.Fracs.{value_along, fits_under, product_back, div_back, div_zero_is}
use Rattle.hys_frac.proofs.frac.Frac.div.Goals as goal

pub returns : goal.returns
returns c =
    let below : c.product-2.result ≡ pos c.args.self.den *ℤ c.args.other.num = (product_back _ _ _ _ _ c.product-2.ensures.value (search rules) (search rules) c.den-2.ensures.value c.num-2.ensures.value) in
    let e : int (to_z w128 (of_z w128 c.product.result)) /ₙ int (to_z w128 (of_z w128 c.product-2.result)) ≡ c.args.self /ₙ c.args.other = div_back c.args.self c.args.other c.product.result c.product-2.result (search rules) (search rules)
    (product_back _ _ _ _ _ c.product.ensures.value (search rules) (search rules) c.num.ensures.value c.den.ensures.value) below in
    record { value = value_along _ _ c.quotient.result e c.quotient.ensures.value; fits = fits_under _ _ c.quotient.result (div_zero_is c.args.self c.args.other c.product-2.result (search rules) below) e c.quotient.ensures.fits }
