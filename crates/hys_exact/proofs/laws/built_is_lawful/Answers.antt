use Rattle.hys_exact.proofs.Lawful.{lawful_system}
use Rattle.hys_exact.proofs.laws.built_is_lawful.Goals as goal

pub returns : goal.returns
returns c = λ p o S b g q s w l. lawful_system p o S g q b s w l
