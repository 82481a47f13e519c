use Rattle.std.proofs.Common.{◌≡◌, subst, sym}
use Rattle.hys_lin.specs.declared.form.Affine.{Affine}
use Rattle.hys_lin.specs.Sums.{EachColumn}
use Rattle.hys_rows.proofs.Adding.{copy_added}
use Rattle.hys_rows.proofs.guard.add_copy.Goals as goal

pub copy_rows-requires-clause-apart : goal.copy_rows-requires-clause-apart
copy_rows-requires-clause-apart c = subst (λ (f : Affine). EachColumn (λ d. ¬ (d ≡ c.args.own)) f.terms) (sym c.in_ok-moved_form.ensures) c.requires.apart

pub returns-in-Ok-clause-added : goal.returns-in-Ok-clause-added
returns-in-Ok-clause-added c = copy_added c.args.columns.now c.args.form.now c.args.own c.in_ok-moved_form.moved_form c.args.rows.now.items c.append.new.self.items c.in-Ok.made.items
    c.in_ok-moved_form.ensures c.in_ok-append-in-Ok.ensures.items c.in-Ok.ensures.stated c.in-Ok.ensures.below
