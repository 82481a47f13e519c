use Rattle.std.proofs.Common.{◌≡◌, length, ap, sym, ◌∙◌, List, Bool, ℕ}
use Rattle.hys_prog.specs.declared.program.Name.{Name}
use Rattle.hys_order.proofs.Definable.{others_count}
use Rattle.hys_order.proofs.Walked.{walked_of, auxiliaries_are, names_below, order_walked, stuck_walked, round_walked}
use Rattle.hys_order.proofs.definition_order.order.Goals as goal

pub take_ready-requires-clause-count : goal.take_ready-requires-clause-count
take_ready-requires-clause-count c =
    let a : length c.in_ok-taken.taken.items ≡ length c.items-names.result.now = ap (λ (bs : List Bool). length bs) c.in_ok-taken.ensures ∙ others_count c.items-names.result.now in
    let b : length c.items-names.result.now ≡ length c.args.program.now.names = ap (λ (xs : List Name). length xs) c.items-names.ensures in
    let d : length c.in_ok-links.links.items ≡ length c.args.program.now.names = c.in_ok-links.ensures.count in
    let e : length c.deref-2.result.now ≡ length c.in_ok-links.links.items = ap (λ (xs : List (List ℕ)). length xs) c.deref-2.ensures.value in
    a ∙ b ∙ sym d ∙ sym e

pub take_ready-requires-clause-names : goal.take_ready-requires-clause-names
take_ready-requires-clause-names c =
    let e : length c.deref-2.result.now ≡ length c.in_ok-links.links.items = ap (λ (xs : List (List ℕ)). length xs) c.deref-2.ensures.value in
    names_below c.args.program.now c.deref.result.now (length c.deref-2.result.now) (auxiliaries_are c.args.program.now c.items-names.result.now c.in_ok-auxiliaries.auxiliaries.items c.deref.result.now c.items-names.ensures c.in_ok-auxiliaries.ensures c.deref.ensures.value) (e ∙ c.in_ok-links.ensures.count)

pub first_left-requires : goal.first_left-requires
first_left-requires c =
    let e : length c.deref-2.result.now ≡ length c.in_ok-links.links.items = ap (λ (xs : List (List ℕ)). length xs) c.deref-2.ensures.value in
    let f : length c.deref-4.result.now ≡ length c.take_ready.new.taken.items = ap (λ (xs : List Bool). length xs) c.deref-4.ensures.value in
    names_below c.args.program.now c.deref-3.result.now (length c.deref-4.result.now) (auxiliaries_are c.args.program.now c.items-names.result.now c.in_ok-auxiliaries.auxiliaries.items c.deref-3.result.now c.items-names.ensures c.in_ok-auxiliaries.ensures c.deref-3.ensures.value) (f ∙ c.in_ok-order.ensures.length ∙ e ∙ c.in_ok-links.ensures.count)

pub returns-in-None : goal.returns-in-None
returns-in-None c =
    let w = walked_of c.args.program.now c.items-names.result.now c.in_ok-links.links.items c.deref-2.result.now c.in_ok-auxiliaries.auxiliaries.items c.deref.result.now c.in_ok-taken.taken.items c.in_ok-order.order.items c.take_ready.new.taken.items c.in_ok-links.ensures c.items-names.ensures c.in_ok-auxiliaries.ensures c.in_ok-taken.ensures c.deref-2.ensures.value c.deref.ensures.value c.in_ok-order.ensures.taking c.in_ok-order.ensures.stuck in
    order_walked c.args.program.now c.in_ok-links.links.items c.in_ok-taken.taken.items c.in_ok-order.order.items c.take_ready.new.taken.items c.deref-4.result.now c.deref-3.result.now (record { names = c.of.result }) w (auxiliaries_are c.args.program.now c.items-names.result.now c.in_ok-auxiliaries.auxiliaries.items c.deref-3.result.now c.items-names.ensures c.in_ok-auxiliaries.ensures c.deref-3.ensures.value) c.deref-4.ensures.value c.in-None.ensures c.of.ensures

pub round-requires-clause-stuck : goal.round-requires-clause-stuck
round-requires-clause-stuck c =
    let w = walked_of c.args.program.now c.items-names.result.now c.in_ok-links.links.items c.deref-2.result.now c.in_ok-auxiliaries.auxiliaries.items c.deref.result.now c.in_ok-taken.taken.items c.in_ok-order.order.items c.take_ready.new.taken.items c.in_ok-links.ensures c.items-names.ensures c.in_ok-auxiliaries.ensures c.in_ok-taken.ensures c.deref-2.ensures.value c.deref.ensures.value c.in_ok-order.ensures.taking c.in_ok-order.ensures.stuck in
    stuck_walked c.args.program.now c.in_ok-links.links.items c.deref-in-Some.result.now c.in_ok-taken.taken.items c.in_ok-order.order.items c.take_ready.new.taken.items c.deref-in-Some-2.result.now w c.deref-in-Some-2.ensures.value c.deref-in-Some.ensures.value

pub returns : goal.returns
returns c =
    let w = walked_of c.args.program.now c.items-names.result.now c.in_ok-links.links.items c.deref-2.result.now c.in_ok-auxiliaries.auxiliaries.items c.deref.result.now c.in_ok-taken.taken.items c.in_ok-order.order.items c.take_ready.new.taken.items c.in_ok-links.ensures c.items-names.ensures c.in_ok-auxiliaries.ensures c.in_ok-taken.ensures c.deref-2.ensures.value c.deref.ensures.value c.in_ok-order.ensures.taking c.in_ok-order.ensures.stuck in
    round_walked c.args.program.now c.in_ok-links.links.items c.deref-in-Some.result.now c.in_ok-taken.taken.items c.in_ok-order.order.items c.take_ready.new.taken.items c.deref-in-Some-2.result.now c.in_ok-cycle-in-Some.cycle.items c.deref-in-Some-3.result.now c.of-in-Some.result c.in_ok-turned-in-Some.turned.items w c.deref-in-Some-2.ensures.value c.deref-in-Some.ensures.value c.in_ok-cycle-in-Some.ensures c.deref-in-Some-3.ensures.value c.in_ok-turned-in-Some.ensures c.of-in-Some.ensures
