use Rattle.hys_examples.proofs.Tolerant.{inner_edge, inner_gap}
use Rattle.hys_examples.proofs.last.unnamed_guard.Goals as goal

pub returns : goal.returns
returns c = record { edge = inner_edge; gap = inner_gap }
