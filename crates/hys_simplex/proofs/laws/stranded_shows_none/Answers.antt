use Rattle.hys_simplex.proofs.Shown.{stranded_shows_none}
use Rattle.hys_simplex.proofs.laws.stranded_shows_none.Goals as goal

pub returns : goal.returns
returns c = stranded_shows_none
