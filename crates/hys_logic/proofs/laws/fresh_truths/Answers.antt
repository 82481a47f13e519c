use Rattle.hys_logic.proofs.Used.{fresh_names, fresh_length}
use Rattle.hys_logic.proofs.laws.fresh_truths.Goals as goal

pub returns-clause-names : goal.returns-clause-names
returns-clause-names c = λ u p f w x h. fresh_names u p f w x h

pub returns-clause-count : goal.returns-clause-count
returns-clause-count c = λ u p f w. fresh_length u p f w
