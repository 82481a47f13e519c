use Rattle.hys_examples.proofs.Keeping.{summed_lawful}
use Rattle.hys_examples.proofs.Added.{summed_exact}
use Rattle.hys_examples.proofs.systems.of_a_sum.Goals as goal

pub returns : goal.returns
returns c = record { system = summed_lawful; exact = summed_exact }
