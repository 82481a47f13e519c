use Rattle.hys_examples.proofs.Once.{wrong_section, unknown, output, equation, within, top, wrong_kind}
use Rattle.hys_examples.proofs.rules.places.Goals as goal

pub returns : goal.returns
returns c = record { section = wrong_section; unknown = unknown; output = output; equation = equation; within = within; top = top; kind = wrong_kind }
