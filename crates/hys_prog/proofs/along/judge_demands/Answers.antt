use Rattle.std.proofs.Common.{◌<◌, List, [], cond, drop, length, suc, ap, arith, add-one}
use Rattle.hys_lin.specs.Sums.{at}
use Rattle.hys_prog.specs.declared.program.ProgItem.{ProgItem}
use Rattle.hys_prog.specs.Programs.{is_must}
use Rattle.hys_prog.specs.Stops.{first_stop, demands_from, body_checks}
use Rattle.hys_prog.proofs.Walking.{drop_here, passed, stopped}
use Rattle.hys_prog.proofs.along.judge_demands.Goals as goal

pub returns-in-Err : goal.returns-in-Err
returns-in-Err c =
    let b : c.loop-k.k < length c.args.items.now = omega arith in
    let w = at c.args.values.now in
    let e = drop_here c.args.items.now c.loop-k.k c.index-items-k.result b c.index-items-k.is in
    stopped (demands_from 0 w c.args.items.now) (demands_from c.loop-k.k w (drop c.loop-k.k c.args.items.now)) (cond (is_must c.index-items-k.result.body) (body_checks w c.loop-k.k c.index-items-k.result.body) []) (demands_from (suc c.loop-k.k) w (drop (suc c.loop-k.k) c.args.items.now)) c.in-Err.fault
    c.loop-k.invariant (ap (λ (ts : List ProgItem). demands_from c.loop-k.k w ts) e) c.in-Err.ensures

pub loop-k-preserved : goal.loop-k-preserved
loop-k-preserved c =
    let b : c.loop-k.k < length c.args.items.now = omega arith in
    let w = at c.args.values.now in
    let e = drop_here c.args.items.now c.loop-k.k c.index-items-k.result b c.index-items-k.is in
    rw add-one (passed (first_stop (demands_from 0 w c.args.items.now)) (demands_from c.loop-k.k w (drop c.loop-k.k c.args.items.now)) (cond (is_must c.index-items-k.result.body) (body_checks w c.loop-k.k c.index-items-k.result.body) []) (demands_from (suc c.loop-k.k) w (drop (suc c.loop-k.k) c.args.items.now))
    c.loop-k.invariant (ap (λ (ts : List ProgItem). demands_from c.loop-k.k w ts) e) c.in-Ok.ensures)
