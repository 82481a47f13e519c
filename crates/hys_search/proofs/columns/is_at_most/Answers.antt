use Rattle.std.proofs.Common.{subst}
use Rattle.hys_number.specs.Ops.{◌≤ₙ◌}
use Rattle.hys_number.proofs.Order.{le_of_lt, le_refl'}
use Rattle.hys_search.proofs.columns.is_at_most.Goals as goal

pub returns-in-Less-clause-holds : goal.returns-in-Less-clause-holds
returns-in-Less-clause-holds c = λ _. le_of_lt c.args.left c.args.right c.in-Less.ensures

pub returns-in-Equal-clause-holds : goal.returns-in-Equal-clause-holds
returns-in-Equal-clause-holds c = λ _. subst (λ z. c.args.left ≤ₙ z) c.in-Equal.ensures (le_refl' c.args.left)
