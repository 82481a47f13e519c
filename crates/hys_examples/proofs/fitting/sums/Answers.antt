use Rattle.hys_examples.proofs.Folded.{tenths, tenths_form, steep}
use Rattle.hys_examples.proofs.fitting.sums.Goals as goal

pub returns : goal.returns
returns c = record { fits = tenths; form = tenths_form; steep = steep }
