use Rattle.hys_lagrange.proofs.Gathering.{AreFactorsFrom}
use Rattle.hys_lagrange.proofs.gather.factors.Given as goal

abbrev pub invariant-loop-left : goal.invariant-loop-left
invariant-loop-left l = AreFactorsFrom l.terms l.left l.columns l.list.items

abbrev pub decreases-loop-left : goal.decreases-loop-left
decreases-loop-left l = l.left
