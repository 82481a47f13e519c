use Rattle.std.proofs.Common.{sym, ◌∙◌, arith}
use Rattle.hys_number.specs.Gcd.{gcd-step, gcd-zero}
use Rattle.hys_frac.proofs.reduce.gcd.Goals as goal

pub loop-y-preserved : goal.loop-y-preserved
loop-y-preserved c = gcd-step c.loop-y.x c.loop-y.y (omega arith) ∙ c.loop-y.invariant

pub returns-then-y-eq0 : goal.returns-then-y-eq0
returns-then-y-eq0 c = sym (gcd-zero c.loop-y.x c.loop-y.y (omega arith)) ∙ c.loop-y.invariant

pub returns : goal.returns
returns c = c.gcd_short.ensures ∙ gcd-step c.loop-y.x c.loop-y.y (omega arith) ∙ c.loop-y.invariant
