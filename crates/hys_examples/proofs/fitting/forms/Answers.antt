use Rattle.hys_examples.proofs.Parts.{parts_fit, guard_fit}
use Rattle.hys_examples.proofs.fitting.forms.Goals as goal

pub returns : goal.returns
returns c = record { real = parts_fit; guard = guard_fit }
