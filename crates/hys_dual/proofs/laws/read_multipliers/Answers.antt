use Rattle.hys_dual.proofs.Lawful.{read_multipliers}
use Rattle.hys_dual.proofs.laws.read_multipliers.Goals as goal

pub returns : goal.returns
returns c = read_multipliers
