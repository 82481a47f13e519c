use Rattle.std.proofs.Common.{[], ◌∷◌, ◌∙◌, ap, append_assoc, ◌++◌}
use Rattle.hys_guard.proofs.Lists.{own_each}
use Rattle.std.proofs.Common.{◌<◌}
use Rattle.hys_guard.proofs.choice.rows_at_zero.Goals as goal

pub returns-clause-added : goal.returns-clause-added
returns-clause-added c =
    let one = c.in_ok-choice_row.field-0 in
    let two = c.in_ok-choice_row-2.field-0 in (
      one ∷ two ∷ [],
      c.in_ok-push-2.ensures.items ∙ ap (λ rs. rs ++ (two ∷ [])) c.in_ok-push.ensures.items ∙ append_assoc c.args.rows.now.items (one ∷ []) (two ∷ []),
      (c.in_ok-choice_row.ensures.stated, (c.in_ok-choice_row-2.ensures.stated, tt)),
      λ n l o h. (c.in_ok-choice_row.ensures.below n l (own_each (λ d. d < n) c.args.literal.now.terms o) h, (c.in_ok-choice_row-2.ensures.below n l (own_each (λ d. d < n) c.args.literal.now.terms o) h, tt)),
    )
