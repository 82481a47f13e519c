use Rattle.std.proofs.Common.{◌<◌, length, arith, sym, subst}
use Rattle.hys_lin.specs.Over.{AreTermsOver}
use Rattle.hys_lin.specs.declared.form.Affine.{Affine}
use Rattle.hys_stack.proofs.Steps.{column_room}
use Rattle.hys_stack.proofs.rows.push_equations.Goals as goal

pub equation-requires : goal.equation-requires
equation-requires c =
    let within : c.loop-form.form-index < length c.args.forms.now = omega arith in
    let over : AreTermsOver c.args.columns c.form-item.result.terms = subst (λ (f : Affine). AreTermsOver c.args.columns f.terms) (sym c.form-item.is) (c.requires.forms c.loop-form.form-index c.form-item.result within) in
    column_room c.args.offset c.args.columns c.form-item.result.terms c.requires.room over.below
