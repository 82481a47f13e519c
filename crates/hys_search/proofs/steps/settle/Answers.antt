use Rattle.std.proofs.Common.{◌≡◌, arith}
use Rattle.std.proofs.lemmas.List.{get_or_read}
use Rattle.hys_search.proofs.steps.settle.Goals as goal
use Rattle.hys_search.proofs.Changes.{picked_in, settled_same}
use Rattle.hys_search.specs.Core.{core, picked_of}
use Rattle.hys_search.specs.Nodes.{no_node}

pub index_mut-node-requires : goal.index_mut-node-requires
index_mut-node-requires c =
    let p : c.remove-place.result ≡ picked_of (core c.args.table.now) c.args.which = get_or_read c.args.table.now.queue.items c.args.which c.remove-place.result c.requires.within c.remove-place.ensures.value 0 in
    let q = (picked_in (core c.args.table.now) c.args.which c.requires.holds c.requires.within).there in omega arith

pub returns : goal.returns
returns c =
    let p : c.remove-place.result ≡ picked_of (core c.args.table.now) c.args.which = get_or_read c.args.table.now.queue.items c.args.which c.remove-place.result c.requires.within c.remove-place.ensures.value 0 in
    let n = c.index_mut-node.ensures.value in
    settled_same (core c.args.table.now) c.args.which c.args.held c.args.standing c.remove-place.result c.index_mut-node.result.now _ _ p (get_or_read c.args.table.now.nodes.items c.remove-place.result c.index_mut-node.result.now (let q = (picked_in (core c.args.table.now) c.args.which c.requires.holds c.requires.within).there in omega arith) c.index_mut-node.ensures.value no_node) c.remove-place.ensures.items c.remove.ensures.items
