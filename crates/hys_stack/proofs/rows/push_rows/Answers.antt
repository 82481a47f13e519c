use Rattle.std.proofs.Common.{◌+◌, ◌^◌, ◌<◌, length, arith, sym, subst}
use Rattle.hys_lin.specs.Sums.{EachColumn}
use Rattle.hys_lin.specs.Over.{AreTermsOver}
use Rattle.hys_lin.specs.declared.form.Row.{Row}
use Rattle.hys_stack.proofs.Steps.{column_room}
use Rattle.hys_stack.proofs.rows.push_rows.Goals as goal

pub moved_terms-requires : goal.moved_terms-requires
moved_terms-requires c =
    let within : c.loop-row.row-index < length c.args.rows.now = omega arith in
    let over : AreTermsOver c.args.columns c.row-item.result.terms = subst (λ (r : Row). AreTermsOver c.args.columns r.terms) (sym c.row-item.is) (c.requires.rows c.loop-row.row-index c.row-item.result within) in
    subst (EachColumn (λ i. c.args.offset + i < 2 ^ 32)) (sym c.items.ensures) (column_room c.args.offset c.args.columns c.row-item.result.terms c.requires.room over.below)
