use Rattle.hys_check.specs.Walk.{goal_by}
use Rattle.hys_check.proofs.Walks.{IsWalked}
use Rattle.hys_check.proofs.walk.judge_tree.Given as goal

abbrev pub invariant-loop-number : goal.invariant-loop-number
invariant-loop-number l = IsWalked l.problem (goal_by l.least) l.places l.number l.more l.path.items
