use Rattle.std.proofs.Common.{◌≡◌, subst, sym}
use Rattle.hys_lin.specs.declared.form.Affine.{Affine}
use Rattle.hys_lin.specs.Sums.{EachColumn}
use Rattle.hys_rows.proofs.Adding.{guard_added}
use Rattle.hys_rows.proofs.guard.add_guarded.Goals as goal

pub guard_rows-requires-clause-apart : goal.guard_rows-requires-clause-apart
guard_rows-requires-clause-apart c = subst (λ (f : Affine). EachColumn (λ d. ¬ (d ≡ c.args.own)) f.terms) (sym c.in_ok-form.ensures) c.requires.apart

pub returns-in-Ok-clause-added : goal.returns-in-Ok-clause-added
returns-in-Ok-clause-added c = guard_added c.args.columns.now c.args.number.now c.args.range c.args.eps c.args.own c.in_ok-form.form c.args.rows.now.items c.append.new.self.items c.in-Ok.made.items
    c.in_ok-form.ensures c.in_ok-append-in-Ok.ensures.items c.in-Ok.ensures.stated c.in-Ok.ensures.below
