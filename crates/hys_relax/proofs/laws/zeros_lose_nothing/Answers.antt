use Rattle.hys_relax.proofs.Zeros.{zeros_lose_nothing}
use Rattle.hys_relax.proofs.laws.zeros_lose_nothing.Goals as goal

pub returns : goal.returns
returns c = zeros_lose_nothing
