use Rattle.hys_examples.proofs.Guarded.{at_edge, in_gap, at_tolerance}
use Rattle.hys_examples.proofs.guards.at_the_edge.Goals as goal

pub returns : goal.returns
returns c = record { edge = at_edge; gap = in_gap; far = at_tolerance }
