use Rattle.std.proofs.Common.{ap, Some}
use Rattle.hys_frac.specs.Compare.{number_cmp_is}
use Rattle.hys_frac.proofs.frac.FracPartialOrd.partial_cmp.Goals as goal

pub returns : goal.returns
returns c = ap Some (number_cmp_is _ _ _ c.cmp.ensures)
