use Rattle.hys_lin.proofs.Stated.{are-append, below-append}
use Rattle.hys_guard.proofs.Meaning.{choice_means}
use Rattle.hys_guard.proofs.choice.choice_rows.Goals as goal

stated : goal.returns-clause-stated
stated c =
    let h = c.in_ok-rows_at_zero.ensures.added in
    let g = c.in_ok-rows_at_one.ensures.added in
    rw (g.1, h.1, c.new-rows.ensures.items)
    (are-append h.0 g.0 _ _ (rw (c.in_ok-other_excess.ensures.value, c.in_ok-hit_excess.ensures.value) at h.2) (rw (c.in_ok-other_excess.ensures.value, c.in_ok-hit_excess.ensures.value) at g.2))

pub returns-clause-stated : goal.returns-clause-stated
returns-clause-stated c = stated c

pub returns-clause-meaning : goal.returns-clause-meaning
returns-clause-meaning c = choice_means c.args.literal.now c.args.hit.now c.args.hit_range c.args.other.now c.args.other_range c.args.column c.rows_at_one.new.rows.items c.requires.one_term (stated c)

pub returns-clause-below : goal.returns-clause-below
returns-clause-below c = λ n l o a b.
    let h = c.in_ok-rows_at_zero.ensures.added in
    let g = c.in_ok-rows_at_one.ensures.added in
    rw (g.1, h.1, c.new-rows.ensures.items) (below-append n h.0 g.0 (h.3 n l o b) (g.3 n l o a))
