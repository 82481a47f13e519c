use Rattle.std.proofs.Common.{◌≡◌, rules, to_z, of_z, unsigned_abs}
use mir.Syntax.{w128}
use Rattle.hys_number.specs.Number.{make}
use Rattle.hys_number.specs.Ops.{◌*ₙ◌}
use Rattle.hys_frac.proofs.Fracs.{product_back, mul_back, value_along, fits_along}
use Rattle.hys_frac.proofs.frac.Frac.mul.Goals as goal

pub returns : goal.returns
returns c =
    let e : make (to_z w128 (of_z w128 c.product-above.result)) (unsigned_abs (to_z w128 (of_z w128 c.product-below.result))) ≡ c.args.self *ₙ c.args.other =
    mul_back c.args.self c.args.other c.product-above.result c.product-below.result (search rules) (search rules)
    (product_back _ _ _ _ _ c.product-above.ensures.value (search rules) (search rules) c.num.ensures.value c.num-2.ensures.value)
    (product_back _ _ _ _ _ c.product-below.ensures.value (search rules) (search rules) c.den.ensures.value c.den-2.ensures.value) in
    record { value = value_along _ _ c.reduce.result e c.reduce.ensures.value; fits = fits_along _ _ c.reduce.result e c.reduce.ensures.fits }
