use Rattle.std.proofs.Common.{◌<◌, length, arith}
use Rattle.hys_order.specs.Links.{Untaken}
use Rattle.hys_order.proofs.Taken.{ready_untaken, untaken_below, unset_set, onward_end}
use Rattle.hys_order.proofs.selection.take_ready.Goals as goal

pub index_mut-requires : goal.index_mut-requires
index_mut-requires c =
    let u : Untaken c.loop-name.taken.items c.in-Some.name = ready_untaken c.loop-name.taken.items c.args.links.now c.args.names.now c.in-Some.name (rw c.deref.ensures.value at c.in-Some.ensures.first) in
    let b : c.in-Some.name < length c.loop-name.taken.items = untaken_below c.loop-name.taken.items c.in-Some.name u in
    omega arith

pub loop-name-smaller : goal.loop-name-smaller
loop-name-smaller c =
    let u : Untaken c.loop-name.taken.items c.in-Some.name = ready_untaken c.loop-name.taken.items c.args.links.now c.args.names.now c.in-Some.name (rw c.deref.ensures.value at c.in-Some.ensures.first) in
    unset_set c.loop-name.taken.items c.in-Some.name u

pub returns-clause-taking : goal.returns-clause-taking
returns-clause-taking c = onward_end c.args.links.now c.args.names.now c.args.taken.now.items c.loop-name.taken.items c.loop-name.order.items c.loop-name.invariant.3
