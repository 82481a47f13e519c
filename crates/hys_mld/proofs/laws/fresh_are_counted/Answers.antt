use Rattle.hys_mld.specs.Placing.{placing_of}
use Rattle.hys_mld.proofs.Counting.{fresh_items_same}
use Rattle.hys_mld.proofs.Keeping.{same_booleans}
use Rattle.hys_mld.proofs.laws.fresh_are_counted.Goals as goal

pub returns : goal.returns
returns c = λ p fresh g. fresh_items_same p.names (placing_of p fresh) (placing_of p 0) p.items (same_booleans p fresh 0) g.bodies
