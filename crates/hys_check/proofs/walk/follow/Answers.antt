use Rattle.hys_check.proofs.Walks.{pushed}
use Rattle.hys_check.proofs.walk.follow.Goals as goal

pub returns-in_ok-push-in-Inner-clause-paths : goal.returns-in_ok-push-in-Inner-clause-paths
returns-in_ok-push-in-Inner-clause-paths c = rw c.in-Inner.is (pushed c.args.path.now.items c.push.new.self.items _ c.in_ok-push-in-Inner.ensures.items)

pub returns-in-Cost-clause-within : goal.returns-in-Cost-clause-within
returns-in-Cost-clause-within c = λ n h k. c.turn.ensures.within n h
