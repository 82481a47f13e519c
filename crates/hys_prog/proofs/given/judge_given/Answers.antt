use Rattle.hys_lin.specs.Sums.{at}
use Rattle.hys_prog.specs.Steps.{is_state, is_input}
use Rattle.hys_prog.specs.Stops.{boxes_from}
use Rattle.hys_prog.proofs.Stopping.{judged_after, fault_before}
use Rattle.hys_prog.proofs.given.judge_given.Goals as goal

pub returns-in-Ok : goal.returns-in-Ok
returns-in-Ok c = judged_after _ (boxes_from 0 is_state (at c.args.values.now) c.args.names.now) (boxes_from 0 is_input (at c.args.values.now) c.args.names.now) c.judge_boxes-in-Ok.result c.in-Ok.ensures c.judge_boxes-in-Ok.ensures

pub returns-in-Err : goal.returns-in-Err
returns-in-Err c = fault_before (boxes_from 0 is_state (at c.args.values.now) c.args.names.now) (boxes_from 0 is_input (at c.args.values.now) c.args.names.now) c.in-Err.fault c.in-Err.ensures
