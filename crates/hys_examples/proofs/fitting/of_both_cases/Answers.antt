use Rattle.hys_examples.proofs.Folded.{spread_low, spread_high, spread_numbers}
use Rattle.hys_examples.proofs.fitting.of_both_cases.Goals as goal

pub returns : goal.returns
returns c = record { low = spread_low; high = spread_high; numbers = spread_numbers }
