use Rattle.hys_lin.specs.Ranges.{box_at}
use Rattle.hys_relax.specs.BoundSum.{bound_operations}
use Rattle.hys_dual.specs.Costs.{with_cost}
use Rattle.hys_simplex.proofs.Shown.{lost_is_unfit}
use Rattle.hys_dual.proofs.Finishing.{shown_lost}
use Rattle.hys_dual.proofs.choice.sum_fits.Goals as goal

pub returns-in-Err-Lost : goal.returns-in-Err-Lost
returns-in-Err-Lost c = lost_is_unfit (bound_operations (with_cost c.args.problem.now c.args.cost.now c.args.constant) (box_at c.args.boxes.now) c.args.pairs.now) c.in-Err-Lost.field-0-0
    (shown_lost c.bound_sum.result c.in-Err-Lost.field-0 c.in-Err-Lost.field-0-0 (bound_operations (with_cost c.args.problem.now c.args.cost.now c.args.constant) (box_at c.args.boxes.now) c.args.pairs.now) c.bound_sum.ensures.lost c.in-Err-Lost.is c.in-Err-Lost.field-0-is)
