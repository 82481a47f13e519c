use Rattle.std.proofs.Common.{ap}
use Rattle.hys_bound.specs.Ranges.{all_at}
use Rattle.hys_rows.proofs.Worked.{numbers_asked}
use Rattle.hys_mld.proofs.laws.worked.Goals as goal

pub returns-clause-numbers : goal.returns-clause-numbers
returns-clause-numbers c = ap (all_at 0) numbers_asked
