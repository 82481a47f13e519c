use Rattle.std.proofs.Common.{◌≡◌, subst, sym}
use Rattle.hys_lin.specs.declared.form.Affine.{Affine}
use Rattle.hys_lin.specs.Sums.{EachColumn}
use Rattle.hys_rows.proofs.Adding.{chosen_added}
use Rattle.hys_rows.proofs.choice.add_chosen.Goals as goal

pub choice_rows-requires-clause-hit_apart : goal.choice_rows-requires-clause-hit_apart
choice_rows-requires-clause-hit_apart c = subst (λ (f : Affine). EachColumn (λ d. ¬ (d ≡ c.args.own)) f.terms) (sym c.in_ok-first.ensures) c.requires.hit_apart

pub choice_rows-requires-clause-other_apart : goal.choice_rows-requires-clause-other_apart
choice_rows-requires-clause-other_apart c = subst (λ (f : Affine). EachColumn (λ d. ¬ (d ≡ c.args.own)) f.terms) (sym c.in_ok-second.ensures) c.requires.other_apart

pub returns-in-Ok-clause-added : goal.returns-in-Ok-clause-added
returns-in-Ok-clause-added c = chosen_added c.args.columns.now c.args.literal.now c.args.hit.now c.args.hit_range c.args.other.now c.args.other_range c.args.own c.in_ok-first.first c.in_ok-second.second c.args.rows.now.items c.append.new.self.items c.in-Ok.made.items
    c.in_ok-first.ensures c.in_ok-second.ensures c.in_ok-append-in-Ok.ensures.items c.in-Ok.ensures.stated c.in-Ok.ensures.below
