use Rattle.std.proofs.Common.{◌≡◌, ◌≤◌, ◌<◌, length, ℕ, ◌∙◌, ap, subst, List, arith, get_or, None, Some}
use Rattle.hys_lin.specs.declared.form.Interval.{Interval}
use Rattle.hys_prog.specs.declared.program.ProgItem.{ProgItem}
use Rattle.hys_bound.specs.Ranges.{declared, interval_at, asked_at, all_at, first_unfit, Placed, range_numbers}
use Rattle.hys_bound.proofs.Turns.{turn, named_below, onward_more, onward_lost, declared_count, onward_end, judged_on, judged_err}
use Rattle.hys_bound.proofs.Holding.{intervals_hold}
use Rattle.hys_bound.proofs.along.bounds.Goals as goal

pub index-requires : goal.index-requires
index-requires c =
    let b : get_or c.items-name-items.result.now c.loop-name.name-index 0 < length c.in_ok-places.places.items = named_below c.args.program.now c.args.order.now c.items-name-items.result.now c.loop-name.name-index (length c.in_ok-places.places.items) c.requires.program c.requires.order c.items-name-items.ensures c.loop-name-test.true c.in_ok-places.ensures.length in
    omega arith

pub interval_here-requires-clause-within : goal.interval_here-requires-clause-within
interval_here-requires-clause-within c =
    let t = turn c.args.program.now c.args.order.now c.in_ok-places.places.items c.items-name-items.result.now c.loop-name.name-index c.index.result.now (length c.loop-name.boxes.items) c.requires.program c.requires.order c.in_ok-places.ensures.places c.in_ok-places.ensures.length c.items-name-items.ensures c.loop-name-test.true c.index.ensures c.loop-name.invariant.kept in
    rw c.items-in-loop-name.ensures t.within

pub interval_here-requires-clause-below : goal.interval_here-requires-clause-below
interval_here-requires-clause-below c =
    let e = ap (λ (bs : List Interval). length bs) c.deref.ensures.value in
    let t = turn c.args.program.now c.args.order.now c.in_ok-places.places.items c.items-name-items.result.now c.loop-name.name-index c.index.result.now (length c.deref.result.now) c.requires.program c.requires.order c.in_ok-places.ensures.places c.in_ok-places.ensures.length c.items-name-items.ensures c.loop-name-test.true c.index.ensures (e ∙ c.loop-name.invariant.kept) in
    rw c.items-in-loop-name.ensures t.below

pub index_mut-requires : goal.index_mut-requires
index_mut-requires c =
    let b : get_or c.items-name-items.result.now c.loop-name.name-index 0 < length c.loop-name.boxes.items = named_below c.args.program.now c.args.order.now c.items-name-items.result.now c.loop-name.name-index (length c.loop-name.boxes.items) c.requires.program c.requires.order c.items-name-items.ensures c.loop-name-test.true (c.loop-name.invariant.kept ∙ declared_count c.args.program.now.names) in
    omega arith

pub loop-name-preserved : goal.loop-name-preserved
loop-name-preserved c =
    let t = turn c.args.program.now c.args.order.now c.in_ok-places.places.items c.items-name-items.result.now c.loop-name.name-index c.index.result.now (length c.loop-name.boxes.items) c.requires.program c.requires.order c.in_ok-places.ensures.places c.in_ok-places.ensures.length c.items-name-items.ensures c.loop-name-test.true c.index.ensures c.loop-name.invariant.kept in
    let b : c.loop-name.name-index < length c.args.order.now.names = rw (← c.items-name-items.ensures) c.loop-name-test.true in
    let n = ap (λ (xs : List ℕ). get_or xs c.loop-name.name-index 0) c.items-name-items.ensures in
    let v = subst (λ (ts : List ProgItem). c.in_ok-interval.interval ≡ interval_at c.loop-name.boxes.items ts c.index.result.now) c.items-in-loop-name.ensures (subst (λ (bs : List Interval). c.in_ok-interval.interval ≡ interval_at bs c.items-in-loop-name.result.now c.index.result.now) c.deref.ensures.value c.in_ok-interval.ensures.value) in
    let f = subst (λ (ts : List ProgItem). first_unfit (all_at c.index.result.now (asked_at c.loop-name.boxes.items ts c.index.result.now)) ≡ None) c.items-in-loop-name.ensures (subst (λ (bs : List Interval). first_unfit (all_at c.index.result.now (asked_at bs c.items-in-loop-name.result.now c.index.result.now)) ≡ None) c.deref.ensures.value c.in_ok-interval.ensures.judged) in
    onward_more c.args.program.now.items c.args.order.now.names (declared c.args.program.now.names) c.loop-name.boxes.items c.loop-name.name-index (get_or c.items-name-items.result.now c.loop-name.name-index 0) c.index.result.now c.in_ok-interval.interval c.loop-name.invariant b n t.place v f

pub returns-in_err-interval-clause-judged : goal.returns-in_err-interval-clause-judged
returns-in_err-interval-clause-judged c =
    let t = turn c.args.program.now c.args.order.now c.in_ok-places.places.items c.items-name-items.result.now c.loop-name.name-index c.index.result.now (length c.loop-name.boxes.items) c.requires.program c.requires.order c.in_ok-places.ensures.places c.in_ok-places.ensures.length c.items-name-items.ensures c.loop-name-test.true c.index.ensures c.loop-name.invariant.kept in
    let b : c.loop-name.name-index < length c.args.order.now.names = rw (← c.items-name-items.ensures) c.loop-name-test.true in
    let n = ap (λ (xs : List ℕ). get_or xs c.loop-name.name-index 0) c.items-name-items.ensures in
    judged_err (range_numbers c.args.program.now c.args.order.now) c.from_residual-in_err-interval.result c.in_err-interval.field-0.0 c.from_residual-in_err-interval.ensures.1
    (judged_on (all_at c.index.result.now (asked_at c.deref.result.now c.items-in-loop-name.result.now c.index.result.now)) (range_numbers c.args.program.now c.args.order.now) c.in_err-interval.field-0.0 c.in_err-interval.ensures.judged
    (λ (l : Placed) h. onward_lost c.args.program.now.items c.args.order.now.names (declared c.args.program.now.names) c.loop-name.boxes.items c.loop-name.name-index (get_or c.items-name-items.result.now c.loop-name.name-index 0) c.index.result.now l c.loop-name.invariant b n t.place
    (subst (λ (ts : List ProgItem). first_unfit (all_at c.index.result.now (asked_at c.loop-name.boxes.items ts c.index.result.now)) ≡ Some l) c.items-in-loop-name.ensures (subst (λ (bs : List Interval). first_unfit (all_at c.index.result.now (asked_at bs c.items-in-loop-name.result.now c.index.result.now)) ≡ Some l) c.deref.ensures.value h))))

pub returns-clause-holds : goal.returns-clause-holds
returns-clause-holds c =
    let b : length c.args.order.now.names ≤ c.loop-name.name-index = rw (← c.items-name-items.ensures) c.loop-name-test.false in
    let e = onward_end c.args.program.now.items c.args.order.now.names (declared c.args.program.now.names) c.loop-name.boxes.items c.loop-name.name-index c.loop-name.invariant b in
    intervals_hold c.args.program.now c.args.order.now c.loop-name.boxes.items c.requires.program c.requires.order e.0
