use Rattle.hys_guard.proofs.Meaning.{guard_means}
use Rattle.hys_guard.proofs.guard.guard_rows.Goals as goal

pub returns-clause-stated : goal.returns-clause-stated
returns-clause-stated c = rw (c.in_ok-push-2.ensures.items, c.in_ok-push.ensures.items, c.new-rows.ensures.items)
    (rw (c.in_ok-top.ensures.value) at c.in_ok-guard_row.ensures.stated, (rw (c.in_ok-drop.ensures.value, c.in_ok-rest.ensures.value) at c.in_ok-guard_row-2.ensures.stated, tt))

pub returns-clause-meaning : goal.returns-clause-meaning
returns-clause-meaning c = guard_means c.args.number.now c.args.range c.args.eps c.args.column c.push-2.new.self.items (rw (c.in_ok-push-2.ensures.items, c.in_ok-push.ensures.items, c.new-rows.ensures.items)
    (rw (c.in_ok-top.ensures.value) at c.in_ok-guard_row.ensures.stated, (rw (c.in_ok-drop.ensures.value, c.in_ok-rest.ensures.value) at c.in_ok-guard_row-2.ensures.stated, tt)))

pub returns-clause-below : goal.returns-clause-below
returns-clause-below c = λ n l h. rw (c.in_ok-push-2.ensures.items, c.in_ok-push.ensures.items, c.new-rows.ensures.items) (c.in_ok-guard_row.ensures.below n l h, (c.in_ok-guard_row-2.ensures.below n l h, tt))
