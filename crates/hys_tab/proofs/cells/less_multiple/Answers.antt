use Rattle.hys_tab.proofs.Steps.{less_none, less_value, less_fits}
use Rattle.hys_tab.proofs.cells.less_multiple.Goals as goal

pub returns-in-None-clause-fits : goal.returns-in-None-clause-fits
returns-in-None-clause-fits c = less_none c.args.factor c.args.across c.args.divisor _ c.requires c.in-None.ensures.fits

pub returns-in-Some-clause-value : goal.returns-in-Some-clause-value
returns-in-Some-clause-value c = less_value c.args.factor c.args.across c.args.divisor c.args.old c.in-Some.product c.sub.result c.in-Some.ensures.value c.sub.ensures.value

pub returns-in-Some-clause-fits : goal.returns-in-Some-clause-fits
returns-in-Some-clause-fits c = less_fits c.args.factor c.args.across c.args.divisor c.args.old c.in-Some.product c.sub.result c.in-Some.ensures.value c.in-Some.ensures.fits c.sub.ensures.fits
