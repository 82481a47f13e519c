use Rattle.std.proofs.Common.{rules, refl, ◌∙◌, ap}
use Rattle.hys_number.specs.Ops.{neg}
use Rattle.hys_frac.proofs.Fracs.{product_back}
use Rattle.hys_frac.proofs.Scaling.{Parted, parted, reduced_parts, no_divisor, alike_is, differ_is, refused, kept_fits}
use Rattle.hys_frac.proofs.frac.Frac.mul_div.Goals as goal

pub returns-then-under-eq0-clause-fits : goal.returns-then-under-eq0-clause-fits
returns-then-under-eq0-clause-fits c = no_divisor c.args.divisor c.num-under.result (search rules) c.num-under.ensures.value c.if-under-eq0.true

pub scaled-requires-clause-reduced : goal.scaled-requires-clause-reduced
scaled-requires-clause-reduced c = reduced_parts c.args.divisor c.den-3.result c.num-under.result _ _ (search rules) (search rules) c.den-3.ensures.value c.num-under.ensures.value c.unsigned_abs-3.ensures.value c.unsigned_abs-4.ensures.value

pub returns-in_err-size-clause-fits : goal.returns-in_err-size-clause-fits
returns-in_err-size-clause-fits c =
    let p : Parted c.args.self c.args.by c.args.divisor c.product-above.result c.num-under.result c.unsigned_abs.result c.unsigned_abs-2.result c.unsigned_abs-3.result c.unsigned_abs-4.result =
    parted c.args.self c.args.by c.args.divisor c.product-above.result c.product-below.result c.den-3.result c.num-under.result _ _ _ _ (search rules) (search rules) (search rules) (search rules)
    (product_back _ _ _ _ _ c.product-above.ensures.value (search rules) (search rules) c.num.ensures.value c.num-2.ensures.value)
    (product_back _ _ _ _ _ c.product-below.ensures.value (search rules) (search rules) c.den.ensures.value c.den-2.ensures.value)
    c.den-3.ensures.value c.num-under.ensures.value c.if-under-eq0.false
    c.unsigned_abs.ensures.value c.unsigned_abs-2.ensures.value c.unsigned_abs-3.ensures.value c.unsigned_abs-4.ensures.value in
    refused _ _ c.from_residual.result c.from_residual.ensures c.in_err-size.ensures.fits.1 p.fits_is

pub returns-then-above-under-clause-value : goal.returns-then-above-under-clause-value
returns-then-above-under-clause-value c =
    let p : Parted c.args.self c.args.by c.args.divisor c.product-above.result c.num-under.result c.unsigned_abs.result c.unsigned_abs-2.result c.unsigned_abs-3.result c.unsigned_abs-4.result =
    parted c.args.self c.args.by c.args.divisor c.product-above.result c.product-below.result c.den-3.result c.num-under.result _ _ _ _ (search rules) (search rules) (search rules) (search rules)
    (product_back _ _ _ _ _ c.product-above.ensures.value (search rules) (search rules) c.num.ensures.value c.num-2.ensures.value)
    (product_back _ _ _ _ _ c.product-below.ensures.value (search rules) (search rules) c.den.ensures.value c.den-2.ensures.value)
    c.den-3.ensures.value c.num-under.ensures.value c.if-under-eq0.false
    c.unsigned_abs.ensures.value c.unsigned_abs-2.ensures.value c.unsigned_abs-3.ensures.value c.unsigned_abs-4.ensures.value in
    c.in_ok-size.ensures.value ∙ p.same (alike_is _ _ c.if-above-under.true)

pub returns-then-above-under-clause-fits : goal.returns-then-above-under-clause-fits
returns-then-above-under-clause-fits c =
    let p : Parted c.args.self c.args.by c.args.divisor c.product-above.result c.num-under.result c.unsigned_abs.result c.unsigned_abs-2.result c.unsigned_abs-3.result c.unsigned_abs-4.result =
    parted c.args.self c.args.by c.args.divisor c.product-above.result c.product-below.result c.den-3.result c.num-under.result _ _ _ _ (search rules) (search rules) (search rules) (search rules)
    (product_back _ _ _ _ _ c.product-above.ensures.value (search rules) (search rules) c.num.ensures.value c.num-2.ensures.value)
    (product_back _ _ _ _ _ c.product-below.ensures.value (search rules) (search rules) c.den.ensures.value c.den-2.ensures.value)
    c.den-3.ensures.value c.num-under.ensures.value c.if-under-eq0.false
    c.unsigned_abs.ensures.value c.unsigned_abs-2.ensures.value c.unsigned_abs-3.ensures.value c.unsigned_abs-4.ensures.value in
    kept_fits c.args.divisor _ _ p.divisor (c.in_ok-size.ensures.fits.0 refl) p.fits_is

pub returns-else-above-under-clause-value : goal.returns-else-above-under-clause-value
returns-else-above-under-clause-value c =
    let p : Parted c.args.self c.args.by c.args.divisor c.product-above.result c.num-under.result c.unsigned_abs.result c.unsigned_abs-2.result c.unsigned_abs-3.result c.unsigned_abs-4.result =
    parted c.args.self c.args.by c.args.divisor c.product-above.result c.product-below.result c.den-3.result c.num-under.result _ _ _ _ (search rules) (search rules) (search rules) (search rules)
    (product_back _ _ _ _ _ c.product-above.ensures.value (search rules) (search rules) c.num.ensures.value c.num-2.ensures.value)
    (product_back _ _ _ _ _ c.product-below.ensures.value (search rules) (search rules) c.den.ensures.value c.den-2.ensures.value)
    c.den-3.ensures.value c.num-under.ensures.value c.if-under-eq0.false
    c.unsigned_abs.ensures.value c.unsigned_abs-2.ensures.value c.unsigned_abs-3.ensures.value c.unsigned_abs-4.ensures.value in
    c.neg.ensures ∙ ap neg c.in_ok-size.ensures.value ∙ p.other (differ_is _ _ c.if-above-under.false)

pub returns-else-above-under-clause-fits : goal.returns-else-above-under-clause-fits
returns-else-above-under-clause-fits c =
    let p : Parted c.args.self c.args.by c.args.divisor c.product-above.result c.num-under.result c.unsigned_abs.result c.unsigned_abs-2.result c.unsigned_abs-3.result c.unsigned_abs-4.result =
    parted c.args.self c.args.by c.args.divisor c.product-above.result c.product-below.result c.den-3.result c.num-under.result _ _ _ _ (search rules) (search rules) (search rules) (search rules)
    (product_back _ _ _ _ _ c.product-above.ensures.value (search rules) (search rules) c.num.ensures.value c.num-2.ensures.value)
    (product_back _ _ _ _ _ c.product-below.ensures.value (search rules) (search rules) c.den.ensures.value c.den-2.ensures.value)
    c.den-3.ensures.value c.num-under.ensures.value c.if-under-eq0.false
    c.unsigned_abs.ensures.value c.unsigned_abs-2.ensures.value c.unsigned_abs-3.ensures.value c.unsigned_abs-4.ensures.value in
    kept_fits c.args.divisor _ _ p.divisor (c.in_ok-size.ensures.fits.0 refl) p.fits_is
