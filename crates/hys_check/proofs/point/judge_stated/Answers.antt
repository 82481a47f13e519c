use Rattle.hys_frac.specs.Compare.{eq_is}
use Rattle.hys_check.proofs.Loops.{stated}
use Rattle.hys_check.proofs.point.judge_stated.Goals as goal

pub returns-in-Ok : goal.returns-in-Ok
returns-in-Ok c = stated c.args.problem.now c.args.best.now c.judged.result c.eq.result c.in-Ok.cost c.judged.ensures (eq_is _ _ _ c.eq.ensures) c.in-Ok.ensures.value c.in-Ok.ensures.lost
