use Rattle.hys_logic.proofs.Used.{same_count, fresh_few}
use Rattle.hys_logic.proofs.laws.fresh_counts.Goals as goal

pub returns-clause-columns : goal.returns-clause-columns
returns-clause-columns c = λ u p f q h. same_count u p q f h

pub returns-clause-few : goal.returns-clause-few
returns-clause-few c = λ u p f. fresh_few u p f
