use Rattle.hys_order.specs.Links.{unset}
use Rattle.hys_order.proofs.Rounds.{IsPath}
use Rattle.hys_order.proofs.round.round.Given as goal

-- the path so far leads to the name
abbrev pub invariant-loop-seen : goal.invariant-loop-seen
invariant-loop-seen l = IsPath l.taken l.links l.seen.items l.path.items l.name

abbrev pub decreases-loop-seen : goal.decreases-loop-seen
decreases-loop-seen l = unset l.seen.items
