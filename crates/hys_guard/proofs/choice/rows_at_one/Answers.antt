use Rattle.std.proofs.Common.{◌≡◌, ◌<◌}
use Rattle.hys_guard.specs.declared.terms.Side.TheVariants.{Upper}
use Rattle.hys_guard.proofs.Lists.{own-negated, signed_each}
use Rattle.hys_guard.proofs.choice.rows_at_one.Goals as goal

pub rows_at_zero-requires-clause-own_apart : goal.rows_at_zero-requires-clause-own_apart
rows_at_zero-requires-clause-own_apart c = rw (c.in_ok-opposite.ensures.terms) (signed_each (λ d. ¬ (d ≡ c.args.column)) Upper c.args.literal.now.terms c.requires.own_apart)

pub returns-clause-added : goal.returns-clause-added
returns-clause-added c =
    let h = c.in_ok-rows_at_zero.ensures.added in (
      h.0,
      h.1,
      rw (c.in_ok-opposite.ensures.constant, c.in_ok-opposite.ensures.terms, own-negated c.args.literal.now.terms) at h.2,
      λ n l o i. h.3 n l (rw (c.in_ok-opposite.ensures.terms) (signed_each (λ d. d < n) Upper c.args.literal.now.terms o)) i,
    )
