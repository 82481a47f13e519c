use Rattle.std.proofs.Common.{unsigned_abs, sym, subst, FitsSigned}
use mir.Syntax.{w128}
use Rattle.hys_number.specs.Number.{Number, make}
use Rattle.hys_frac.proofs.Fracs.{Divided, divided, made, kept_wide, one_den, positive_pos, value_along, fits_along}
use Rattle.hys_frac.proofs.frac.reduce.Goals as goal

pub narrow-requires-clause-reduced : goal.narrow-requires-clause-reduced
narrow-requires-clause-reduced c = one_den c.args.num c.args.den c.ranges.den c.requires.above c.if-den-eq1.true

pub overflow_cast-common : goal.overflow_cast-common
overflow_cast-common c = let d : Divided c.args.num c.args.den c.gcd-common.result = divided c.args.num c.args.den _ _ c.ranges.num c.ranges.den c.requires.above c.unsigned_abs.ensures.value c.gcd-common.ensures in d.fits

pub nonzero_div-num : goal.nonzero_div-num
nonzero_div-num c = let d : Divided c.args.num c.args.den c.gcd-common.result = divided c.args.num c.args.den _ _ c.ranges.num c.ranges.den c.requires.above c.unsigned_abs.ensures.value c.gcd-common.ensures in (d.positive, subst (FitsSigned w128) (sym d.num_is) d.num_fits)

pub nonzero_div-den : goal.nonzero_div-den
nonzero_div-den c = let d : Divided c.args.num c.args.den c.gcd-common.result = divided c.args.num c.args.den _ _ c.ranges.num c.ranges.den c.requires.above c.unsigned_abs.ensures.value c.gcd-common.ensures in (d.positive, subst (FitsSigned w128) (sym d.den_is) d.den_fits)

pub narrow-requires-2-clause-positive : goal.narrow-requires-2-clause-positive
narrow-requires-2-clause-positive c = let d : Divided c.args.num c.args.den c.gcd-common.result = divided c.args.num c.args.den _ _ c.ranges.num c.ranges.den c.requires.above c.unsigned_abs.ensures.value c.gcd-common.ensures in rw (kept_wide _ _ d.den_is d.den_fits) (positive_pos (make c.args.num (unsigned_abs c.args.den)))

pub narrow-requires-2-clause-reduced : goal.narrow-requires-2-clause-reduced
narrow-requires-2-clause-reduced c = let d : Divided c.args.num c.args.den c.gcd-common.result = divided c.args.num c.args.den _ _ c.ranges.num c.ranges.den c.requires.above c.unsigned_abs.ensures.value c.gcd-common.ensures in rw (kept_wide _ _ d.num_is d.num_fits, kept_wide _ _ d.den_is d.den_fits) (Number.reduced (make c.args.num (unsigned_abs c.args.den)))

pub returns-clause-value : goal.returns-clause-value
returns-clause-value c = let d : Divided c.args.num c.args.den c.gcd-common.result = divided c.args.num c.args.den _ _ c.ranges.num c.ranges.den c.requires.above c.unsigned_abs.ensures.value c.gcd-common.ensures in value_along _ _ c.narrow-2.result (made (make c.args.num (unsigned_abs c.args.den)) _ _ (kept_wide _ _ d.num_is d.num_fits) (kept_wide _ _ d.den_is d.den_fits)) c.narrow-2.ensures.value

pub returns-clause-fits : goal.returns-clause-fits
returns-clause-fits c = let d : Divided c.args.num c.args.den c.gcd-common.result = divided c.args.num c.args.den _ _ c.ranges.num c.ranges.den c.requires.above c.unsigned_abs.ensures.value c.gcd-common.ensures in fits_along _ _ c.narrow-2.result (made (make c.args.num (unsigned_abs c.args.den)) _ _ (kept_wide _ _ d.num_is d.num_fits) (kept_wide _ _ d.den_is d.den_fits)) c.narrow-2.ensures.fits
