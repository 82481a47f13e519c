use Rattle.hys_guard.proofs.Lists.{each_taken, splits_at}
use Rattle.std.proofs.Common.{◌<◌, arith}
use Rattle.hys_guard.proofs.terms.place_of.Goals as goal

pub returns-then-term-column : goal.returns-then-term-column
returns-then-term-column c = splits_at c.args.column c.loop-i.i c.args.terms.now c.index-terms-i.result c.requires c.loop-i-test.true c.index-terms-i.is (omega arith) c.loop-i.invariant

pub loop-i-preserved : goal.loop-i-preserved
loop-i-preserved c = each_taken (λ d. d < c.args.column) c.loop-i.i c.args.terms.now c.index-terms-i.result c.loop-i-test.true c.index-terms-i.is (omega arith) c.loop-i.invariant
