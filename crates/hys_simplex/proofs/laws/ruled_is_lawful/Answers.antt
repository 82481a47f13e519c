use Rattle.hys_simplex.proofs.Shown.{ruled_is_lawful}
use Rattle.hys_simplex.proofs.laws.ruled_is_lawful.Goals as goal

pub returns : goal.returns
returns c = ruled_is_lawful
