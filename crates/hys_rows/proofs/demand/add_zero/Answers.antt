use Rattle.hys_rows.proofs.Adding.{added_twice}
use Rattle.hys_rows.proofs.demand.add_zero.Goals as goal

pub returns-clause-added : goal.returns-clause-added
returns-clause-added c = added_twice _ _ _ _ _ _ _ _ (λ n p. p) (λ n p. p) c.in_ok-add_most.ensures.added c.in_ok-add_least.ensures
