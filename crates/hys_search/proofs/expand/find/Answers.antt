use Rattle.std.proofs.Common.{ap, Some}
use Rattle.hys_search.proofs.expand.find.Goals as goal
use Rattle.hys_search.specs.Core.{Core, settled}

pub returns : goal.returns
unfolding settled
returns c = ap (λ (D : Core). record D { found = Some c.args.best }) c.settle.ensures
