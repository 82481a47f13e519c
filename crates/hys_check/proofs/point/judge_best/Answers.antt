use Rattle.hys_check.proofs.Loops.{best_last, best_first}
use Rattle.hys_check.proofs.point.judge_best.Goals as goal

pub returns-in-Yes : goal.returns-in-Yes
returns-in-Yes c = rw c.in-Some.is (best_last c.args.problem.now c.args.bound c.in-Some.best c.judged.result c.judge_solved.result c.le.result c.judged.ensures c.le.ensures c.judge_solved.ensures c.in-Yes.is)

pub returns-in_default : goal.returns-in_default
returns-in_default c = rw c.in-Some.is (best_first c.args.problem.now c.args.bound c.in-Some.best c.judge_solved.result c.judge_solved.ensures c.in_default.not-Yes)
