use Rattle.std.proofs.Common.{length}
use Rattle.hys_logic.proofs.table.+add_table.Given as goal

-- the columns that are left
abbrev pub decreases-add_table : goal.decreases-add_table
decreases-add_table l = length l.rest.now
