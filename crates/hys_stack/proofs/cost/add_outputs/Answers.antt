use Rattle.std.proofs.Common.{◌≡◌, ◌<◌, Some, None, length, arith, rules, ap, sym, subst, ◌∙◌}
use Rattle.hys_number.specs.Ops.{◌+ₙ◌, ◌*ₙ◌}
use Rattle.hys_lin.specs.Operations.{first_lost}
use Rattle.hys_sys.specs.declared.system.Output.{Output}
use Rattle.hys_stack.specs.Numbers.{add_form, form_operations}
use Rattle.hys_stack.proofs.Costs.{form_long, outputs_sums, outputs_constant, outputs_lost, outputs_stop}
use Rattle.hys_stack.proofs.Stacked.{err_is}
use Rattle.hys_stack.proofs.cost.add_outputs.Goals as goal

pub returns-in_err-constant-clause-lost : goal.returns-in_err-constant-clause-lost
returns-in_err-constant-clause-lost c =
    let within : c.loop-i.i < length c.args.outputs.now = search rules in
    let same : c.loop-i.i < length c.args.weights.now = omega (arith, within, c.requires.long) in
    err_is _ c.from_residual.result c.in_err-constant.field-0.0 _ (search rules)
    (outputs_stop c.args.weights.now c.args.outputs.now c.loop-i.i c.index-weights-i.result c.index-outputs-i.result c.loop-i.sums.items c.loop-i.constant c.in_err-constant.field-0.0 _ same within c.index-weights-i.is c.index-outputs-i.is c.loop-i.invariant.lost
    (subst (λ (q : Output). Some c.in_err-constant.field-0.0 ≡ first_lost (form_operations c.index-weights-i.result c.loop-i.sums.items c.loop-i.constant q.form)) (sym c.index-outputs-i.is) c.in_err-constant.ensures.lost))

pub loop-i-preserved : goal.loop-i-preserved
loop-i-preserved c =
    let within : c.loop-i.i < length c.args.outputs.now = search rules in
    let same : c.loop-i.i < length c.args.weights.now = omega (arith, within, c.requires.long) in
    let ns : c.add_form.new.sums.items ≡ add_form c.index-weights-i.result c.index-outputs-i.result.form.terms 0 c.loop-i.sums.items =
    subst (λ (q : Output). c.add_form.new.sums.items ≡ add_form c.index-weights-i.result q.form.terms 0 c.loop-i.sums.items) (sym c.index-outputs-i.is) c.in_ok-constant.ensures.sums in
    let nc : c.in_ok-constant.constant ≡ c.loop-i.constant +ₙ c.index-weights-i.result *ₙ c.index-outputs-i.result.form.constant =
    subst (λ (q : Output). c.in_ok-constant.constant ≡ c.loop-i.constant +ₙ c.index-weights-i.result *ₙ q.form.constant) (sym c.index-outputs-i.is) c.in_ok-constant.ensures.constant in
    record {
      sums = outputs_sums c.args.weights.now c.args.outputs.now c.loop-i.i c.index-weights-i.result c.index-outputs-i.result c.loop-i.sums.items c.add_form.new.sums.items c.loop-i.constant c.in_ok-constant.constant same within c.index-weights-i.is c.index-outputs-i.is ns nc _ c.loop-i.invariant.sums;
      long = ap length ns ∙ form_long c.index-weights-i.result c.index-outputs-i.result.form.terms 0 c.loop-i.sums.items ∙ c.loop-i.invariant.long;
      constant = outputs_constant c.args.weights.now c.args.outputs.now c.loop-i.i c.index-weights-i.result c.index-outputs-i.result c.loop-i.sums.items c.add_form.new.sums.items c.loop-i.constant c.in_ok-constant.constant same within c.index-weights-i.is c.index-outputs-i.is ns nc _ c.loop-i.invariant.constant;
      lost = outputs_lost c.args.weights.now c.args.outputs.now c.loop-i.i c.index-weights-i.result c.index-outputs-i.result c.loop-i.sums.items c.add_form.new.sums.items c.loop-i.constant c.in_ok-constant.constant same within c.index-weights-i.is c.index-outputs-i.is ns nc _ c.loop-i.invariant.lost
          (subst (λ (q : Output). None ≡ first_lost (form_operations c.index-weights-i.result c.loop-i.sums.items c.loop-i.constant q.form)) (sym c.index-outputs-i.is) c.in_ok-constant.ensures.lost);
    }
