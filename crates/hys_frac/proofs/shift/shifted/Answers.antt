use Rattle.std.proofs.Common.{◌≤◌, arith}
use Rattle.hys_frac.proofs.Fracs.{value_along, fits_along}
use Rattle.hys_frac.proofs.Powers.{up_shift, down_shift}
use Rattle.hys_frac.proofs.shift.shifted.Goals as goal

pub returns-then-up-down-clause-value : goal.returns-then-up-down-clause-value
returns-then-up-down-clause-value c = let h : c.args.down ≤ c.args.up = omega arith in value_along _ _ c.raised.result (up_shift c.args.number c.args.up c.args.down h) c.raised.ensures.value

pub returns-then-up-down-clause-fits : goal.returns-then-up-down-clause-fits
returns-then-up-down-clause-fits c = let h : c.args.down ≤ c.args.up = omega arith in fits_along _ _ c.raised.result (up_shift c.args.number c.args.up c.args.down h) c.raised.ensures.fits

pub returns-else-up-down-clause-value : goal.returns-else-up-down-clause-value
returns-else-up-down-clause-value c = let h : c.args.up ≤ c.args.down = omega arith in value_along _ _ c.lowered.result (down_shift c.args.number c.args.up c.args.down h) c.lowered.ensures.value

pub returns-else-up-down-clause-fits : goal.returns-else-up-down-clause-fits
returns-else-up-down-clause-fits c = let h : c.args.up ≤ c.args.down = omega arith in fits_along _ _ c.lowered.result (down_shift c.args.number c.args.up c.args.down h) c.lowered.ensures.fits
