use Rattle.hys_examples.proofs.Folded.{halved_ranges, halved_first, halved_fits, far_first}
use Rattle.hys_examples.proofs.fitting.of_a_fine_guard.Goals as goal

pub returns : goal.returns
returns c = record { ranges = halved_ranges; first = halved_first; fits = halved_fits; before = far_first }
