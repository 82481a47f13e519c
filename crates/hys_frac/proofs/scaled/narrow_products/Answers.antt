use Rattle.std.proofs.Common.{arith}
use Rattle.hys_frac.proofs.Fracs.{none_fits}
use Rattle.hys_frac.proofs.Crosswise.{long_above, long_below}
use Rattle.hys_frac.proofs.scaled.narrow_products.Goals as goal
use Rattle.hys_frac.proofs.scaled.narrow_products.Goals.{then-above-gt-LARGEST-via-then-above-gt-LARGEST, then-above-gt-LARGEST-via-else-above-gt-LARGEST+then-below-gt-LARGEST}

pub returns-then-above-gt-LARGEST-clause-fits : goal.returns-then-above-gt-LARGEST-clause-fits
returns-then-above-gt-LARGEST-clause-fits c = elim c.then-above-gt-LARGEST.branch [
  | then-above-gt-LARGEST-via-then-above-gt-LARGEST w ↦ none_fits _ (long_above c.args.above.0 c.args.above.1 c.args.below.0 c.args.below.1 (omega arith) c.requires.above c.requires.first c.requires.second c.requires.reduced)
  | then-above-gt-LARGEST-via-else-above-gt-LARGEST+then-below-gt-LARGEST w ↦ none_fits _ (long_below c.args.above.0 c.args.above.1 c.args.below.0 c.args.below.1 (omega arith) c.requires.first c.requires.second c.requires.reduced)
]
