use Rattle.std.proofs.Common.{◌<◌, arith}
use Rattle.hys_number.proofs.Signs.{whole-lt}
use Rattle.hys_guard.proofs.tests.unit.Goals as goal

pub returns : goal.returns
returns c = let h : 0 < 1 = omega arith in rw (c.whole.ensures) ((whole-lt 0 1).1 h)
