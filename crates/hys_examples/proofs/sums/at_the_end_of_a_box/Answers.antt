use Rattle.hys_examples.proofs.Summed.{summed_accepted, leaves, outside}
use Rattle.hys_examples.proofs.sums.at_the_end_of_a_box.Goals as goal

pub returns : goal.returns
returns c = record { accepted = summed_accepted; leaves = leaves; outside = outside }
