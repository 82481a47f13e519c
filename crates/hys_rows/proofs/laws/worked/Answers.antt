use Rattle.hys_rows.proofs.Worked.{moved_sorted, numbers_asked, guard_fits, guard_rows}
use Rattle.hys_rows.proofs.laws.worked.Goals as goal

pub returns-clause-moved : goal.returns-clause-moved
returns-clause-moved c = moved_sorted

pub returns-clause-fits : goal.returns-clause-fits
returns-clause-fits c = guard_fits

pub returns-clause-rows : goal.returns-clause-rows
returns-clause-rows c = guard_rows

pub returns-clause-numbers : goal.returns-clause-numbers
returns-clause-numbers c = numbers_asked
