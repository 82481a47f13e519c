use Rattle.std.proofs.Common.{rules, FitsSigned, w64}
use Rattle.hys_frac.proofs.Signs.{zero_is}
use Rattle.hys_frac.proofs.frac.Frac.is_zero.Goals as goal

pub returns : goal.returns
returns c = let f : FitsSigned w64 c.num.result = search rules in zero_is c.args.self c.num.result f c.num.ensures.value
