use Rattle.hys_simplex.proofs.Shown.{no_status_twice}
use Rattle.hys_simplex.proofs.laws.no_status_twice.Goals as goal

pub returns : goal.returns
returns c = no_status_twice
