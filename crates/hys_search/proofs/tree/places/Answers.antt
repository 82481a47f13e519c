use Rattle.std.proofs.Common.{◌≡◌, ◌<◌, List, [], ◌∷◌, ◌++◌, length, map, take, sym, ◌∙◌, ap, ap₂, subst, arith, get_or}
use Rattle.std.proofs.lemmas.List.{get_or_read, take_more, map-append}
use Rattle.hys_search.proofs.tree.places.Goals as goal
use Rattle.hys_search.proofs.Changes.{rising_of}
use Rattle.hys_search.proofs.Outcomes.{leaf_held}
use Rattle.hys_search.proofs.Preorder.{EachBelow, each_at, labels_below}
use Rattle.hys_search.specs.Core.{core}
use Rattle.hys_search.specs.Nodes.{IsRising, labels, no_node, node_at, shape}
use Rattle.hys_search.specs.Places.{place_at, place_of}
use Rattle.hys_search.specs.Standings.{certificate_at}
use Rattle.hys_search.specs.declared.nodes.Certificate.{Certificate}
use Rattle.hys_search.specs.declared.nodes.Node.{Node}
use Rattle.hys_tree.specs.declared.tree.TreePlace.{TreePlace}

pub order-requires : goal.order-requires
order-requires c =
    let C = core c.args.table.now in
    let h = c.requires in
    let v = ap length c.as_slice.ensures.value in
    let r = h.rooted in let d = h.doubled in let k = h.kept_to in let m = h.limited in
    record { rooted = omega arith; few = omega arith; rising = subst IsRising (sym c.as_slice.ensures.value) (rising_of C h) }

pub index-node-requires : goal.index-node-requires
index-node-requires c =
    let C = core c.args.table.now in
    let e : c.in_ok-order.order.items ≡ labels (shape C.nodes) = c.in_ok-order.ensures ∙ ap (λ (ns : List Node). labels (shape ns)) c.as_slice.ensures.value in
    let b = subst (EachBelow (length C.nodes)) (sym e) (labels_below C.nodes (rising_of C c.requires) c.requires.rooted) in
    let i : c.loop-i.i < length c.in_ok-order.order.items = omega arith in
    let r : c.index-at.result.now ≡ get_or c.in_ok-order.order.items c.loop-i.i 0 = get_or_read c.in_ok-order.order.items c.loop-i.i c.index-at.result.now i c.index-at.ensures 0 in
    let l = each_at (length C.nodes) c.in_ok-order.order.items c.loop-i.i b i in omega arith

pub place-requires : goal.place-requires
place-requires c =
    let C = core c.args.table.now in
    let e : c.in_ok-order.order.items ≡ labels (shape C.nodes) = c.in_ok-order.ensures ∙ ap (λ (ns : List Node). labels (shape ns)) c.as_slice.ensures.value in
    let b = subst (EachBelow (length C.nodes)) (sym e) (labels_below C.nodes (rising_of C c.requires) c.requires.rooted) in
    let i : c.loop-i.i < length c.in_ok-order.order.items = omega arith in
    let r : c.index-at.result.now ≡ get_or c.in_ok-order.order.items c.loop-i.i 0 = get_or_read c.in_ok-order.order.items c.loop-i.i c.index-at.result.now i c.index-at.ensures 0 in
    let l = each_at (length C.nodes) c.in_ok-order.order.items c.loop-i.i b i in
    let m : c.index-at.result.now < length C.nodes = omega arith in
    let n : c.index-node.result.now ≡ node_at C.nodes c.index-at.result.now = get_or_read C.nodes c.index-at.result.now c.index-node.result.now m c.index-node.ensures no_node in
    λ f. subst (λ (cs : List Certificate). c.index-node.result.now.held < length cs) (sym c.as_slice-in-loop-i.ensures.value) (leaf_held C c.requires c.index-at.result.now c.index-node.result.now m n f)

pub loop-i-preserved : goal.loop-i-preserved
loop-i-preserved c =
    let C = core c.args.table.now in
    let f = place_at C.nodes C.certificates in
    let xs = c.in_ok-order.order.items in
    let e : xs ≡ labels (shape C.nodes) = c.in_ok-order.ensures ∙ ap (λ (ns : List Node). labels (shape ns)) c.as_slice.ensures.value in
    let b = subst (EachBelow (length C.nodes)) (sym e) (labels_below C.nodes (rising_of C c.requires) c.requires.rooted) in
    let i : c.loop-i.i < length c.in_ok-order.order.items = omega arith in
    let r : c.index-at.result.now ≡ get_or xs c.loop-i.i 0 = get_or_read xs c.loop-i.i c.index-at.result.now i c.index-at.ensures 0 in
    let l = each_at (length C.nodes) xs c.loop-i.i b i in
    let m : c.index-at.result.now < length C.nodes = omega arith in
    let n : c.index-node.result.now ≡ node_at C.nodes c.index-at.result.now = get_or_read C.nodes c.index-at.result.now c.index-node.result.now m c.index-node.ensures no_node in
    let p : c.in_ok-place.place ≡ f (get_or xs c.loop-i.i 0) = c.in_ok-place.ensures ∙ ap₂ (λ (cs : List Certificate) (n : Node). place_of (certificate_at cs n.held) n.standing) c.as_slice-in-loop-i.ensures.value n ∙ ap f r in
    c.in_ok-push.ensures.items ∙ ap₂ (λ (ps : List TreePlace) (p : TreePlace). ps ++ (p ∷ [])) c.loop-i.invariant p ∙ sym (ap (map f) (take_more xs c.loop-i.i 0 i) ∙ map-append f (take c.loop-i.i xs) (get_or xs c.loop-i.i 0 ∷ []))
