use Rattle.std.proofs.Common.{refl, Some, None}
use Rattle.hys_lin.specs.Ranges.{box_at}
use Rattle.hys_relax.specs.BoundSum.{bound_operations}
use Rattle.hys_dual.specs.Costs.{with_cost}
use Rattle.hys_dual.proofs.Finishing.{shown_lost}
use Rattle.hys_dual.proofs.Bounded.{value_at, operations_at, no_lost}
use Rattle.hys_dual.proofs.bounding.bound_at.Goals as goal

pub returns-in-Ok : goal.returns-in-Ok
returns-in-Ok c =
    let P = c.args.problem.now in
    let fs = c.args.fixings.now in
    let ys = c.args.multipliers.now.pairs in (
      value_at P fs c.in_ok-boxes.boxes.items c.as_slice.result.now c.items-cost.result.now P.cost.constant c.items-pairs.result.now ys c.in-Ok.bound
          c.as_slice.ensures.value c.in_ok-boxes.ensures.each c.items-cost.ensures c.items-pairs.ensures c.requires.rise c.requires.lawful refl c.in-Ok.ensures.value,
      operations_at P fs c.in_ok-boxes.boxes.items c.as_slice.result.now c.items-cost.result.now P.cost.constant c.items-pairs.result.now ys None
          c.as_slice.ensures.value c.in_ok-boxes.ensures.each c.items-cost.ensures c.items-pairs.ensures refl c.in-Ok.ensures.lost,
    )

pub returns-in-Err-Lost : goal.returns-in-Err-Lost
returns-in-Err-Lost c =
    let P = c.args.problem.now in
    let fs = c.args.fixings.now in
    let ys = c.args.multipliers.now.pairs in
    let l = shown_lost c.bound_sum.result c.in-Err-Lost.field-0 c.in-Err-Lost.field-0-0 (bound_operations (with_cost P c.items-cost.result.now P.cost.constant) (box_at c.as_slice.result.now) c.items-pairs.result.now) c.bound_sum.ensures.lost c.in-Err-Lost.is c.in-Err-Lost.field-0-is in
    let o = operations_at P fs c.in_ok-boxes.boxes.items c.as_slice.result.now c.items-cost.result.now P.cost.constant c.items-pairs.result.now ys (Some c.in-Err-Lost.field-0-0)
    c.as_slice.ensures.value c.in_ok-boxes.ensures.each c.items-cost.ensures c.items-pairs.ensures refl l in
    λ f. no_lost _ _ o f
