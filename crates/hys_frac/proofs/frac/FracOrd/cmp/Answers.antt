use Rattle.hys_frac.specs.Compare.{number_cmp_is}
use Rattle.hys_frac.proofs.frac.FracOrd.cmp.Goals as goal

pub returns : goal.returns
returns c = number_cmp_is _ _ _ c.cmp.ensures
