use Rattle.hys_simplex.proofs.Shown.{alike_say}
use Rattle.hys_simplex.proofs.laws.alike_say.Goals as goal

pub returns : goal.returns
returns c = alike_say
