use Rattle.std.proofs.Common.{◌≡◌, ◌<◌, ◌+◌, ◌∙◌, sym, ap, subst, arith, refl, [], false}
use Rattle.std.proofs.lemmas.List.{get_or_default}
use Rattle.hys_number.specs.Ops.{fits, whole}
use Rattle.hys_lin.specs.Sums.{EachColumn}
use Rattle.hys_lin.specs.declared.form.Row.{Row}
use Rattle.hys_relax.proofs.Zeros.{zero_fits}
use Rattle.hys_tab.specs.Cells.{row_of}
use Rattle.hys_tab.proofs.slack_basis.fill_rows.Goals as goal

pub loop-i-init : goal.loop-i-init
loop-i-init c = record {
  shape = refl;
  there = λ a b l m. absurd (omega arith);
  blank = λ a b l m n. c.requires.blank a b m n;
  fit = λ i j l m. ap fits (c.requires.blank i j l m) ∙ zero_fits;
}

pub fill_row-requires-clause-below : goal.fill_row-requires-clause-below
fill_row-requires-clause-below c =
    let e : row_of c.args.rows.now c.loop-i.i ≡ c.index-rows-i.result = get_or_default c.args.rows.now c.loop-i.i (record { terms = []; bound = whole 0; eq = false }) c.index-rows-i.result c.loop-i-test.true ∙ sym c.index-rows-i.is in
    subst (EachColumn (λ q. q + 1 < c.args.width)) (ap (λ (r : Row). r.terms) e ∙ sym c.items.ensures) (c.requires.below c.loop-i.i c.loop-i-test.true)
