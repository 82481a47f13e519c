use Rattle.hys_parse.proofs.Depths.{depth_is}
use Rattle.hys_parse.proofs.laws.depth_counted.Goals as goal

pub returns : goal.returns
returns c = depth_is
