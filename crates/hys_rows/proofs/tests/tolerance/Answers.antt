use Rattle.std.proofs.Common.{◌<◌, arith}
use Rattle.hys_number.proofs.Signs.{whole-lt}
use Rattle.hys_rows.proofs.tests.tolerance.Goals as goal

pub returns : goal.returns
returns c = let h : 0 < 2 = omega arith in rw (c.whole.ensures) ((whole-lt 0 2).1 h)
