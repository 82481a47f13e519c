use Rattle.std.proofs.Common.{length}
use Rattle.hys_parse.proofs.section.+among.Given as goal

abbrev pub decreases-among : goal.decreases-among
decreases-among l = length l.seen.now
