use Rattle.hys_tab.proofs.Slacks.{fits_by_parts}
use Rattle.hys_dual.proofs.products.kept.Goals as goal

pub returns-clause-fits : goal.returns-clause-fits
returns-clause-fits c = fits_by_parts c.args.number _ c.num.ensures.value c.num.ensures.below c.den.ensures.below
