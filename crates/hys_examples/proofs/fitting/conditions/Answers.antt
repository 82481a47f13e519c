use Rattle.hys_examples.proofs.Folded.{of_connective, of_negation, of_two}
use Rattle.hys_examples.proofs.fitting.conditions.Goals as goal

pub returns : goal.returns
returns c = record { connective = of_connective; negated = of_negation; twice = of_two }
