use Rattle.std.proofs.Common.{◌≡◌, ◌+◌, ◌≤◌, ◌<◌, arith, drop, length, suc}
use Rattle.hys_prog.specs.Programs.{body_connectives, items_weight}
use Rattle.hys_rows.specs.Items.{fresh_in}
use Rattle.hys_mld.specs.Fresh.{fresh_of_items}
use Rattle.hys_mld.proofs.Counting.{fresh_few_items, fresh_here, weight_below}
use Rattle.hys_mld.proofs.fresh.count_fresh.Goals as goal

pub fresh_in-requires-clause-count : goal.fresh_in-requires-clause-count
fresh_in-requires-clause-count c =
    let w : body_connectives c.item-item.result.body ≤ items_weight c.args.items.now = weight_below c.args.items.now c.loop-item.item-index c.item-item.result (omega arith) c.item-item.is in
    let r : items_weight c.args.items.now < 4294967296 = c.requires.weight in
    omega arith

pub overflow_add-count : goal.overflow_add-count
overflow_add-count c =
    let b : c.loop-item.item-index < length c.args.items.now = omega arith in
    let i : c.loop-item.count + fresh_of_items c.args.columns.now (drop c.loop-item.item-index c.args.items.now) ≡ fresh_of_items c.args.columns.now c.args.items.now = c.loop-item.invariant in
    let h : fresh_of_items c.args.columns.now (drop c.loop-item.item-index c.args.items.now) ≡ fresh_in c.args.columns.now c.item-item.result.body + fresh_of_items c.args.columns.now (drop (suc c.loop-item.item-index) c.args.items.now) = fresh_here c.args.columns.now c.args.items.now c.loop-item.item-index c.item-item.result b c.item-item.is in
    let f : fresh_of_items c.args.columns.now c.args.items.now ≤ items_weight c.args.items.now = fresh_few_items c.args.columns.now c.args.items.now in
    let r : items_weight c.args.items.now < 4294967296 = c.requires.weight in
    let q : c.in_ok-count.field-0 ≡ fresh_in c.args.columns.now c.item-item.result.body = c.in_ok-count.ensures in
    omega arith
