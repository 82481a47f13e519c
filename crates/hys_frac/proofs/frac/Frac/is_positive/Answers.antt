use Rattle.std.proofs.Common.{rules, FitsSigned, w64}
use Rattle.hys_frac.proofs.Signs.{positive_is}
use Rattle.hys_frac.proofs.frac.Frac.is_positive.Goals as goal

pub returns : goal.returns
returns c = let f : FitsSigned w64 c.num.result = search rules in positive_is c.args.self c.num.result f c.num.ensures.value
