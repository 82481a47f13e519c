use Rattle.hys_examples.proofs.Folded.{at_left, at_right, at_quotient, at_difference, at_most, at_least, at_equal}
use Rattle.hys_examples.proofs.fitting.operators.Goals as goal

pub returns : goal.returns
returns c = record { left = at_left; right = at_right; quotient = at_quotient; difference = at_difference; most = at_most; least = at_least; equal = at_equal }
