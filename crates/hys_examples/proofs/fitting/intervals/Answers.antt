use Rattle.hys_examples.proofs.Folded.{wide, turn, turn_numbers, turn_fits}
use Rattle.hys_examples.proofs.fitting.intervals.Goals as goal

pub returns : goal.returns
returns c = record { wide = wide; order = turn; numbers = turn_numbers; fits = turn_fits }
