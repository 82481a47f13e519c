use Rattle.hys_exact.proofs.Exactness.{exact_system}
use Rattle.hys_exact.proofs.laws.built_is_exact.Goals as goal

pub returns : goal.returns
returns c = λ p o S g q b. exact_system p o S g q b
