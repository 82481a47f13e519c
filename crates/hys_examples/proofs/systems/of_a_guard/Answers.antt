use Rattle.hys_examples.proofs.Keeping.{guarded_lawful}
use Rattle.hys_examples.proofs.Switched.{guarded_exact}
use Rattle.hys_examples.proofs.systems.of_a_guard.Goals as goal

pub returns : goal.returns
returns c = record { system = guarded_lawful; exact = guarded_exact }
