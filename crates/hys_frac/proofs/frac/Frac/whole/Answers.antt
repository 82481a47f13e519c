use Rattle.std.proofs.Common.{◌<◌, ◌^◌, arith}
use Rattle.hys_frac.proofs.Wholes.{whole_reduced, whole_made}
use Rattle.hys_frac.proofs.frac.Frac.whole.Goals as goal

pub invariant_of-result : goal.invariant_of-result
invariant_of-result c = let h : c.args.number < 2 ^ 32 = omega arith in whole_reduced c.args.number h

pub returns : goal.returns
returns c = let h : c.args.number < 2 ^ 32 = omega arith in whole_made c.args.number h
