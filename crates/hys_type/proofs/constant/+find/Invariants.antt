use Rattle.std.proofs.Common.{length}
use Rattle.hys_type.proofs.constant.+find.Given as goal

abbrev pub decreases-find : goal.decreases-find
decreases-find l = length l.known.now
