use Rattle.hys_examples.proofs.Tolerant.{own_edge, own_gap, own_far}
use Rattle.hys_examples.proofs.last.own_tolerance.Goals as goal

pub returns : goal.returns
returns c = record { edge = own_edge; gap = own_gap; far = own_far }
