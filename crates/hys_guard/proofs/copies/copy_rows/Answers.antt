use Rattle.hys_guard.proofs.Meaning.{copy_means}
use Rattle.hys_guard.proofs.copies.copy_rows.Goals as goal

pub returns-clause-stated : goal.returns-clause-stated
returns-clause-stated c = rw (c.in_ok-push-2.ensures.items, c.in_ok-push.ensures.items, c.new-rows.ensures.items) (c.in_ok-copy_row.ensures.stated, (c.in_ok-copy_row-2.ensures.stated, tt))

pub returns-clause-meaning : goal.returns-clause-meaning
returns-clause-meaning c = copy_means c.args.form.now c.args.column c.push-2.new.self.items (rw (c.in_ok-push-2.ensures.items, c.in_ok-push.ensures.items, c.new-rows.ensures.items) (c.in_ok-copy_row.ensures.stated, (c.in_ok-copy_row-2.ensures.stated, tt)))

pub returns-clause-below : goal.returns-clause-below
returns-clause-below c = λ n l h. rw (c.in_ok-push-2.ensures.items, c.in_ok-push.ensures.items, c.new-rows.ensures.items) (c.in_ok-copy_row.ensures.below n l h, (c.in_ok-copy_row-2.ensures.below n l h, tt))
