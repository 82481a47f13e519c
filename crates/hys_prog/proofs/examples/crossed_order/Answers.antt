use Rattle.std.proofs.Common.{rules}
use Rattle.hys_prog.proofs.Crossed.{crossed_ordered}
use Rattle.hys_prog.proofs.examples.crossed_order.Goals as goal

pub returns : goal.returns
returns c = crossed_ordered c.of.result (search rules)
