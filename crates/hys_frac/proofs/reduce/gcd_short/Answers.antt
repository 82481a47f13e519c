use Rattle.std.proofs.Common.{sym, ◌∙◌, arith}
use Rattle.hys_number.specs.Gcd.{gcd-step, gcd-zero}
use Rattle.hys_frac.proofs.reduce.gcd_short.Goals as goal

pub loop-y-preserved : goal.loop-y-preserved
loop-y-preserved c = gcd-step c.loop-y.x c.loop-y.y (omega arith) ∙ c.loop-y.invariant

pub returns : goal.returns
returns c = sym (gcd-zero c.loop-y.x c.loop-y.y (omega arith)) ∙ c.loop-y.invariant
