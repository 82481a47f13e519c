use Rattle.std.proofs.Common.{◌≡◌, ◌<◌, ◌≤◌, length, ◌++◌, append-nil, List, sym, ◌∙◌, ap}
use Rattle.std.proofs.lemmas.List.{drop_all}
use Rattle.hys_prog.specs.declared.program.Name.{Name}
use Rattle.hys_order.specs.Lists.{links_from}
use Rattle.hys_order.proofs.Linked.{linked, placed_within}
use Rattle.hys_order.proofs.links.links.Goals as goal

pub link-requires : goal.link-requires
link-requires c =
    let b : c.loop-n.n < length c.args.program.now.names = rw (← c.items-name-items.ensures) c.loop-n-test.true in
    let w : c.loop-n.n < length c.in_ok-places.places.items = rw (c.in_ok-places.ensures.length) b in
    rw c.items.ensures (placed_within c.args.program.now c.in_ok-places.places.items c.loop-n.n c.index.result.now c.name-item.result c.in_ok-places.ensures.places b (rw c.items-name-items.ensures at c.name-item.is) c.index.ensures w)

pub returns : goal.returns
returns c =
    let b : length c.args.program.now.names ≤ c.loop-n.n = rw (← c.items-name-items.ensures) c.loop-n-test.false in
    let d = drop_all c.loop-n.n c.args.program.now.names b in
    let e : c.loop-n.links.items ≡ links_from c.args.program.now.items c.in_ok-places.places.items 0 c.args.program.now.names =
    sym (append-nil c.loop-n.links.items) ∙ ap (λ (ns : List Name). c.loop-n.links.items ++ links_from c.args.program.now.items c.in_ok-places.places.items c.loop-n.n ns) (sym d) ∙ c.loop-n.invariant in
    linked c.args.program.now c.in_ok-places.places.items c.loop-n.links.items c.requires c.in_ok-places.ensures.places e
