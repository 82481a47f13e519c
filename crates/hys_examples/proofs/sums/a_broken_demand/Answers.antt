use Rattle.hys_examples.proofs.Summed.{demanding_accepted, first, second, broken, run}
use Rattle.hys_examples.proofs.sums.a_broken_demand.Goals as goal

pub returns : goal.returns
returns c = record { accepted = demanding_accepted; first = first; second = second; broken = broken; run = run }
