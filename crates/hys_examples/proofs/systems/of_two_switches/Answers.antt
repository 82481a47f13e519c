use Rattle.hys_examples.proofs.Keeping.{casting_lawful}
use Rattle.hys_examples.proofs.Weighed.{casting_exact}
use Rattle.hys_examples.proofs.systems.of_two_switches.Goals as goal

pub returns : goal.returns
returns c = record { system = casting_lawful; exact = casting_exact }
