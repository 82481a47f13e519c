use Rattle.std.proofs.Common.{◌<◌, List, [], cond, drop, length, suc, ap, arith, add-one}
use Rattle.hys_lin.specs.Sums.{at}
use Rattle.hys_prog.specs.declared.program.Name.{Name}
use Rattle.hys_prog.specs.declared.stop.Stop.TheVariants.{Bounds}
use Rattle.hys_prog.specs.Stops.{first_stop, boxes_from, in_box, one}
use Rattle.hys_prog.specs.Walk.{is_role}
use Rattle.hys_prog.proofs.Walking.{drop_here, passed, stopped}
use Rattle.hys_prog.proofs.given.judge_boxes.Goals as goal

pub returns-in-Err : goal.returns-in-Err
returns-in-Err c =
    let b : c.loop-n.n < length c.args.names.now = omega arith in
    let w = at c.args.values.now in
    let part = is_role c.args.part in
    let e = drop_here c.args.names.now c.loop-n.n c.index-names-n.result b c.index-names-n.is in
    stopped (boxes_from 0 part w c.args.names.now) (boxes_from c.loop-n.n part w (drop c.loop-n.n c.args.names.now)) (cond (part c.index-names-n.result.role) (one (in_box c.index-names-n.result (w c.loop-n.n)) (Bounds c.loop-n.n)) []) (boxes_from (suc c.loop-n.n) part w (drop (suc c.loop-n.n) c.args.names.now)) c.in-Err.fault
    c.loop-n.invariant (ap (λ (ks : List Name). boxes_from c.loop-n.n part w ks) e) c.in-Err.ensures

pub loop-n-preserved : goal.loop-n-preserved
loop-n-preserved c =
    let b : c.loop-n.n < length c.args.names.now = omega arith in
    let w = at c.args.values.now in
    let part = is_role c.args.part in
    let e = drop_here c.args.names.now c.loop-n.n c.index-names-n.result b c.index-names-n.is in
    rw add-one (passed (first_stop (boxes_from 0 part w c.args.names.now)) (boxes_from c.loop-n.n part w (drop c.loop-n.n c.args.names.now)) (cond (part c.index-names-n.result.role) (one (in_box c.index-names-n.result (w c.loop-n.n)) (Bounds c.loop-n.n)) []) (boxes_from (suc c.loop-n.n) part w (drop (suc c.loop-n.n) c.args.names.now))
    c.loop-n.invariant (ap (λ (ks : List Name). boxes_from c.loop-n.n part w ks) e) c.in-Ok.ensures)
