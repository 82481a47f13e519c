use Rattle.std.proofs.Common.{rules, FitsSigned, w64}
use Rattle.hys_frac.proofs.Signs.{negative_is}
use Rattle.hys_frac.proofs.frac.Frac.is_negative.Goals as goal

pub returns : goal.returns
returns c = let f : FitsSigned w64 c.num.result = search rules in negative_is c.args.self c.num.result f c.num.ensures.value
