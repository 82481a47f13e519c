use Rattle.std.proofs.Common.{◌<◌, rules}
use Rattle.hys_number.specs.Number.{Number}
use Rattle.hys_stack.specs.Numbers.{step_coefficients}
use Rattle.hys_stack.proofs.Steps.{each_on}
use Rattle.hys_stack.proofs.Stacked.{steps_stop, steps_go, constant_goes}
use Rattle.hys_stack.proofs.cost.sum_cost.Goals as goal

pub returns-in_err-constant-clause-lost : goal.returns-in_err-constant-clause-lost
returns-in_err-constant-clause-lost c =
    let within : c.loop-step.step < c.args.request.now.horizon = search rules in
    steps_stop _ Number c.from_residual.result c.in_err-constant.field-0.0 c.args.system.now c.args.request.now c.args.request.now.horizon c.loop-step.step c.loop-step.constant _ (search rules) c.in_err-constant.ensures.lost within c.loop-step.invariant.lost

pub loop-step-preserved : goal.loop-step-preserved
loop-step-preserved c =
    let within : c.loop-step.step < c.args.request.now.horizon = search rules in
    record {
      sums = each_on (step_coefficients c.args.system.now c.args.request.now) c.loop-step.step c.args.request.now.horizon c.loop-step.sums.items c.push_step.new.out.items _ within c.loop-step.invariant.sums c.in_ok-constant.ensures.sums;
      constant = constant_goes c.args.system.now c.args.request.now c.args.request.now.horizon c.loop-step.step c.loop-step.constant c.in_ok-constant.constant _ within c.in_ok-constant.ensures.constant c.loop-step.invariant.constant;
      lost = steps_go c.args.system.now c.args.request.now c.args.request.now.horizon c.loop-step.step c.loop-step.constant c.in_ok-constant.constant _ within c.in_ok-constant.ensures.lost c.in_ok-constant.ensures.constant c.loop-step.invariant.lost;
    }
