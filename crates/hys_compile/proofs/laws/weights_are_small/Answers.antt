use Rattle.hys_compile.proofs.SmallWeights.{small_weight}
use Rattle.hys_compile.proofs.laws.weights_are_small.Goals as goal

pub returns : goal.returns
returns c = small_weight
