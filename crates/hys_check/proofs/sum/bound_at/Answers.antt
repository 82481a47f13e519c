use Rattle.std.proofs.Common.{Some, None}
use Rattle.hys_lagrange.specs.Costs.{with_cost}
use Rattle.hys_check.proofs.Bounds.{bound_is, lost_is}
use Rattle.hys_check.proofs.sum.bound_at.Goals as goal

pub returns-in-Ok : goal.returns-in-Ok
returns-in-Ok c = (
  bound_is (with_cost c.args.problem.now c.args.cost.now) c.args.fixings.now c.args.pairs.now c.in_ok-boxes.boxes.items c.as_slice.result.now c.in-Ok.bound c.as_slice.ensures.value c.in_ok-boxes.ensures.each c.requires.multipliers c.requires.lawful c.in-Ok.ensures.value,
  lost_is (with_cost c.args.problem.now c.args.cost.now) c.args.fixings.now c.args.pairs.now c.in_ok-boxes.boxes.items c.as_slice.result.now None c.as_slice.ensures.value c.in_ok-boxes.ensures.each c.in-Ok.ensures.lost,
)

pub returns-in-Err-Lost : goal.returns-in-Err-Lost
returns-in-Err-Lost c = lost_is (with_cost c.args.problem.now c.args.cost.now) c.args.fixings.now c.args.pairs.now c.in_ok-boxes.boxes.items c.as_slice.result.now (Some c.in-Err-Lost.lost) c.as_slice.ensures.value c.in_ok-boxes.ensures.each (rw c.in-Err-Lost.field-0-is at c.in-Err-Lost.ensures.lost)
