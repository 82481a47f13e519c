use Rattle.std.proofs.Common.{◌≡◌, ℕ, List, [], ◌∷◌, ◌++◌, length, sym, refl, ◌∙◌, ap, subst, arith}
use Rattle.hys_search.proofs.tree.order.Goals as goal
use Rattle.hys_search.proofs.Preorder.{EachBelow, all_stacked, each_visit, stacked, turn}
use Rattle.hys_search.specs.Nodes.{labels, shape}

pub loop-place-init : goal.loop-place-init
loop-place-init c =
    let e : c.push.new.self.items ≡ 0 ∷ [] = c.in_ok-push.ensures.items ∙ ap (λ (z : List ℕ). z ++ (0 ∷ [])) c.new-stack.ensures.items in
    (subst (EachBelow (length c.args.nodes.now)) (sym e) (c.requires.rooted, tt), ap (λ (z : List ℕ). z ++ stacked c.args.nodes.now c.push.new.self.items) c.new-order.ensures.items ∙ ap (stacked c.args.nodes.now) e ∙ all_stacked c.args.nodes.now)

pub bounds-nodes-place : goal.bounds-nodes-place
bounds-nodes-place c = (each_visit c.args.nodes.now c.requires.rising c.pop.new.self.items c.loop-place.stack.items _ c.in-Some.place c.in-Some.ensures.items refl c.loop-place.invariant.0).0

pub offset_bounds-nodes-place : goal.offset_bounds-nodes-place
offset_bounds-nodes-place c = let l = (each_visit c.args.nodes.now c.requires.rising c.pop.new.self.items c.loop-place.stack.items _ c.in-Some.place c.in-Some.ensures.items refl c.loop-place.invariant.0).0 in let f = c.requires.few in omega arith

pub loop-place-smaller : goal.loop-place-smaller
loop-place-smaller c =
    let l = (each_visit c.args.nodes.now c.requires.rising c.pop.new.self.items c.loop-place.stack.items _ c.in-Some.place c.in-Some.ensures.items refl c.loop-place.invariant.0).0 in
    (turn c.args.nodes.now c.requires.rising c.pop.new.self.items c.loop-place.order.items c.push-in-Some.new.self.items c.loop-place.stack.items c.open_children.new.stack.items (labels (shape c.args.nodes.now)) c.in-Some.place l c.in-Some.ensures.items c.in_ok-push-2.ensures.items c.in_ok-open_children.ensures c.loop-place.invariant.1).1

pub loop-place-preserved : goal.loop-place-preserved
loop-place-preserved c =
    let w = each_visit c.args.nodes.now c.requires.rising c.pop.new.self.items c.loop-place.stack.items c.open_children.new.stack.items c.in-Some.place c.in-Some.ensures.items c.in_ok-open_children.ensures c.loop-place.invariant.0 in
    (w.1, (turn c.args.nodes.now c.requires.rising c.pop.new.self.items c.loop-place.order.items c.push-in-Some.new.self.items c.loop-place.stack.items c.open_children.new.stack.items (labels (shape c.args.nodes.now)) c.in-Some.place w.0 c.in-Some.ensures.items c.in_ok-push-2.ensures.items c.in_ok-open_children.ensures c.loop-place.invariant.1).0)
