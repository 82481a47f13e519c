use Rattle.std.proofs.Common.{subst, sym, Option}
use Rattle.hys_number.specs.Ops.{◌≤ₙ◌}
use Rattle.hys_number.proofs.Order.{le_of_lt, le_refl'}
use Rattle.hys_plan.proofs.end.is_settled.Goals as goal
use Rattle.hys_number.specs.Number.{Number}
use Rattle.hys_search.specs.Standings.{IsSettledBy}
use Rattle.hys_tree.specs.declared.answer.Best.{Best}

pub returns-in-Less-clause-settled : goal.returns-in-Less-clause-settled
returns-in-Less-clause-settled c = λ _. subst (λ (o : Option Best). IsSettledBy o c.args.bound) (sym c.in-Some.ensures) (le_of_lt c.in-Some.best.now.cost c.args.bound c.in-Less.ensures)

pub returns-in-Equal-clause-settled : goal.returns-in-Equal-clause-settled
returns-in-Equal-clause-settled c = λ _. subst (λ (o : Option Best). IsSettledBy o c.args.bound) (sym c.in-Some.ensures) (subst (λ (z : Number). c.in-Some.best.now.cost ≤ₙ z) c.in-Equal.ensures (le_refl' c.in-Some.best.now.cost))
