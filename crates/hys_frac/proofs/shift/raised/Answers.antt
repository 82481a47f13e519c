use Rattle.std.proofs.Common.{arith}
use Rattle.hys_number.specs.Gcd.{gcd-one}
use Rattle.hys_frac.proofs.Fracs.{none_fits}
use Rattle.hys_frac.proofs.Powers.{long_num, raised_step}
use Rattle.hys_frac.proofs.shift.raised.Goals as goal

pub returns-then-product-gt-LARGEST-clause-fits : goal.returns-then-product-gt-LARGEST-clause-fits
returns-then-product-gt-LARGEST-clause-fits c = none_fits _ (long_num c.loop-left.product c.loop-left.left _ (omega arith) c.loop-left.invariant.value)

pub loop-left-preserved : goal.loop-left-preserved
loop-left-preserved c = record { small = omega arith; value = raised_step c.loop-left.product c.loop-left.left _ (omega arith) c.loop-left.invariant.value }

pub narrow-requires-clause-reduced : goal.narrow-requires-clause-reduced
narrow-requires-clause-reduced c = gcd-one _
