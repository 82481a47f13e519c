use Rattle.hys_lagrange.proofs.Summed.{fits_by_parts}
use Rattle.hys_lagrange.proofs.products.kept.Goals as goal

pub returns-clause-fits : goal.returns-clause-fits
returns-clause-fits c = fits_by_parts c.args.number _ c.num.ensures.value c.num.ensures.below c.den.ensures.below
