use Rattle.std.proofs.Common.{length}
use Rattle.hys_file.proofs.guess.items.Given as goal

abbrev pub decreases-loop-alloc : goal.decreases-loop-alloc
decreases-loop-alloc g l = length l.tokens
