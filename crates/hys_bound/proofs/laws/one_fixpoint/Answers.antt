use Rattle.hys_bound.proofs.Fixing.{fixed_exactly}
use Rattle.hys_bound.proofs.laws.one_fixpoint.Goals as goal

pub returns : goal.returns
returns c = λ p o boxes q. fixed_exactly p o boxes q
