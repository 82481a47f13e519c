use Rattle.hys_relax.proofs.Children.{within}
use Rattle.hys_relax.proofs.laws.branch_within.Goals as goal

pub returns : goal.returns
returns c = within
