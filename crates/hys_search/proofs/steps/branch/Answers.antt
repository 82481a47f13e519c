use Rattle.std.proofs.Common.{◌≡◌, ◌+◌, List, ℕ, true, false, set, refl, ◌∙◌, ap, arith}
use Rattle.std.proofs.lemmas.List.{get_or_read}
use Rattle.std.specs.List.{remove}
use Rattle.hys_search.specs.declared.nodes.Standing.TheVariants.{Inner}
use Rattle.hys_search.proofs.steps.branch.Goals as goal
use Rattle.hys_search.proofs.Changes.{branched_same, picked_in, two_first, two_put}
use Rattle.hys_search.proofs.Walk.{as_many, entry_is, path_short}
use Rattle.hys_search.specs.Core.{child, core, entry, picked_of, with_standing}
use Rattle.hys_search.specs.Nodes.{no_node}
use Rattle.hys_search.specs.Standings.{no_certificate}
use Rattle.hys_search.specs.declared.nodes.Node.{Node}
use Rattle.hys_search.specs.declared.nodes.Waiting.{Waiting}

pub overflow_add-depth : goal.overflow_add-depth
overflow_add-depth c =
    let C = core c.args.table.now in
    let h = c.requires.holds in
    let q = (picked_in C c.args.which h c.requires.within).there in
    let m = as_many C h in
    let e : c.index.result.now ≡ entry C.nodes C.certificates (picked_of C c.args.which) = c.index.ensures ∙ entry_is C c.args.which c.index.result.now h c.requires.within in
    let d = ap (λ (w : Waiting). w.depth) e in
    let s = path_short C.nodes h.parents (picked_of C c.args.which) q in
    let k = h.doubled in let l = h.kept_to in let n = h.limited in
    omega arith

pub index_mut-node-requires : goal.index_mut-node-requires
index_mut-node-requires c =
    let p : c.remove-place.result ≡ picked_of (core c.args.table.now) c.args.which = get_or_read c.args.table.now.queue.items c.args.which c.remove-place.result c.requires.within c.remove-place.ensures.value 0 in
    let q = (picked_in (core c.args.table.now) c.args.which c.requires.holds c.requires.within).there in omega arith

pub returns : goal.returns
returns c =
    let C = core c.args.table.now in
    let h = c.requires.holds in
    let p : c.remove-place.result ≡ picked_of C c.args.which = get_or_read c.args.table.now.queue.items c.args.which c.remove-place.result c.requires.within c.remove-place.ensures.value 0 in
    let q = (picked_in C c.args.which h c.requires.within).there in
    let e : c.index.result.now ≡ entry C.nodes C.certificates (picked_of C c.args.which) = c.index.ensures ∙ entry_is C c.args.which c.index.result.now h c.requires.within in
    let ns : List Node = set C.nodes c.remove-place.result (with_standing c.index_mut-node.result.now c.args.held (Inner c.args.column c.len-first.result)) in
    let entered : Waiting = record { depth = c.index.result.now.depth + 1; bound = c.index-2.result.now.bound } in
    branched_same C c.args.which c.args.held c.args.column c.remove-place.result c.index_mut-node.result.now c.len-first.result (c.index.result.now.depth + 1) c.index-2.result.now.bound c.put-2.new.list.items c.put_first-2.new.list.items c.put_first-4.new.list.items
    p
    (get_or_read c.args.table.now.nodes.items c.remove-place.result c.index_mut-node.result.now (omega arith) c.index_mut-node.ensures.value no_node)
    (let z = c.len-first.ensures in omega arith)
    (ap (λ (w : Waiting). w.depth + 1) e)
    (ap (λ z. z.bound) (get_or_read c.args.table.now.certificates.items c.args.held c.index-2.result.now c.requires.there c.index-2.ensures no_certificate))
    (two_put {A = Node} ns ns c.put.new.list.items c.put-2.new.list.items c.child.result c.child-2.result (child c.remove-place.result c.args.column false c.args.held) (child c.remove-place.result c.args.column true c.args.held) refl c.put.ensures.items c.put-2.ensures.items c.child.ensures c.child-2.ensures)
    (two_first {A = ℕ} (remove C.queue c.args.which) c.remove-place.new.self.items c.put_first.new.list.items c.put_first-2.new.list.items c.len-first.result (c.len-first.result + 1) c.len-first.result (c.len-first.result + 1) c.remove-place.ensures.items c.put_first.ensures.items c.put_first-2.ensures.items refl refl)
    (two_first {A = Waiting} (remove C.waiting c.args.which) c.remove.new.self.items c.put_first-3.new.list.items c.put_first-4.new.list.items entered entered entered entered c.remove.ensures.items c.put_first-3.ensures.items c.put_first-4.ensures.items refl refl)
